-- What is pushed, by numbers, and the graphs side by side, by spots: equal nodes and clashes are the same. Assumes nothing.
use mathlib.Core.Path.{◌≡◌, refl, sym, ap, ◌∙◌, subst}
use mathlib.Core.HLevel.{Σ_prop_path}
use mathlib.Core.List.Memᴰ
use mathlib.Core.List.{List, [], ◌∷◌, Memᴰ}
use mathlib.Core.Logic.{◌⊎◌, inl, inr, ⊎_elim}
use Prim.Native.Nat.{ℕ, ◌+◌, ◌<◌}
use native.Mathlib.Bridge.{le_prop}
use native.Mathlib.Omega.{arith}
use lib.ListN.{length, get_or}
use Rattle.theory.specs.Limits.{code_limit}
use Rattle.theory.specs.Net.{Node, atom, arcs, nodeAt, arcsOf, beside, Same, seed, self, back, on, along, roots, atoms, atom_arc, Clash}
use Rattle.forest.specs.State.{Pile, ClashIn}
use Rattle.forest.specs.State as pile
use Rattle.loading.specs.Entry.{Entry, graphs}
use Rattle.classes.specs.Entry.{Spots, spot_number}
use Rattle.classes.specs.Holds.{code, NodeIn, Tied, EntriesApart}

-- the node of a spot
pub spot_node : (es : List Entry) (s : Spots es) → NodeIn es (spot_number es s)
spot_node (e ∷ es) (inl x) = record { e = e; one = Memᴰ.head refl; j = x.0; below = x.1; is = refl }
spot_node (e ∷ es) (inr y) = let r = spot_node es y in
    record { e = r.e; one = Memᴰ.tail r.one; j = r.j; below = r.below; is = r.is }
spot_node [] s = elim s [ ]

-- graphs that share no number have no two spots of one number
pub spot_one : (es : List Entry) → EntriesApart es → (s t : Spots es) → spot_number es s ≡ spot_number es t → s ≡ t
spot_one (e ∷ es) a (inl x) (inl y) q = let z : x.0 ≡ y.0 = omega arith in ap {B = Spots (e ∷ es)} inl (Σ_prop_path (λ n. le_prop) z)
spot_one (e ∷ es) a (inl x) (inr y) q =
    let r = spot_node es y in
    let b = x.1 in let c = r.below in let d = r.is in
    absurd (⊎_elim (λ o. omega arith) (λ o. omega arith) (a.0 r.e r.one).0)
spot_one (e ∷ es) a (inr x) (inl y) q =
    let r = spot_node es x in
    let b = y.1 in let c = r.below in let d = r.is in
    absurd (⊎_elim (λ o. omega arith) (λ o. omega arith) (a.0 r.e r.one).0)
spot_one (e ∷ es) a (inr x) (inr y) q = ap {B = Spots (e ∷ es)} inr (spot_one es a.1 x y q)
spot_one [] a s t q = elim s [ ]

-- the spot of a node
pub record Spotted (es : List Entry) (e : Entry) (j : ℕ) : Type 0 where
  pub spot : Spots es
  pub is : spot_number es spot ≡ e.number + j
  pub atom_is : (a : ℕ) → nodeAt e.graph j ≡ atom a → (beside (graphs es)).Atom spot a
  pub root_is : j ≡ 0 → (beside (graphs es)).Root spot

pub spotted : (es : List Entry) (e : Entry) (j : ℕ) → Memᴰ e es → j < length e.graph → Spotted es e j
spotted [] e j m h = absurd (Memᴰ.not-nil m)
spotted (o ∷ es) e j m h = ⊎_elim
    (λ q. subst (λ (z : Entry). Spotted (o ∷ es) z j) (sym q) (here (subst (λ (z : Entry). j < length z.graph) q h)))
    (λ i. let r = spotted es e j i h in record { spot = inr r.spot; is = r.is; atom_is = r.atom_is; root_is = r.root_is })
    (Memᴰ.cases_cons m)
  where
    here : j < length o.graph → Spotted (o ∷ es) o j
    here l = record { spot = inl (j, l); is = refl; atom_is = λ a q. q; root_is = λ q. q }

-- the spots of an arc's ends
pub record Arched (es : List Entry) (e : Entry) (j f t : ℕ) : Type 0 where
  pub from : Spots es
  pub to : Spots es
  pub from_is : spot_number es from ≡ e.number + j
  pub to_is : spot_number es to ≡ e.number + t
  pub arc : (beside (graphs es)).Arc from f to

pub arched : (es : List Entry) (e : Entry) (j f t : ℕ) → Memᴰ e es → j < length e.graph → t < length e.graph →
    Memᴰ (f, t) (arcsOf (nodeAt e.graph j)) → Arched es e j f t
arched [] e j f t m h i a = absurd (Memᴰ.not-nil m)
arched (o ∷ es) e j f t m h i a = ⊎_elim
    (λ q. subst (λ (z : Entry). Arched (o ∷ es) z j f t) (sym q)
    (here (subst (λ (z : Entry). j < length z.graph) q h) (subst (λ (z : Entry). t < length z.graph) q i)
    (subst (λ (z : Entry). Memᴰ (f, t) (arcsOf (nodeAt z.graph j))) q a)))
    (λ d. let r = arched es e j f t d h i a in
    record { from = inr r.from; to = inr r.to; from_is = r.from_is; to_is = r.to_is; arc = r.arc })
    (Memᴰ.cases_cons m)
  where
    here : j < length o.graph → t < length o.graph → Memᴰ (f, t) (arcsOf (nodeAt o.graph j)) → Arched (o ∷ es) o j f t
    here l k b = record { from = inl (j, l); to = inl (t, k); from_is = refl; to_is = refl; arc = b }

module _ (F T : List ℕ) (all : List Entry) (G : Pile) (tied : Tied F T all G) where
  -- ---- from spots to numbers: what the graphs es say, which are among all
  pub root_down : (es : List Entry) → ((e : Entry) → Memᴰ e es → Memᴰ e all) → (s : Spots es) → (beside (graphs es)).Root s →
      Memᴰ (spot_number es s) G.R
  root_down (e ∷ es) i (inl x) r = let z : e.number + x.0 ≡ e.number = omega arith in rw z (tied.root e (i e (Memᴰ.head refl)))
  root_down (e ∷ es) i (inr y) r = root_down es (λ o m. i o (Memᴰ.tail m)) y r
  root_down [] i s r = elim s [ ]

  pub atom_down : (es : List Entry) → ((e : Entry) → Memᴰ e es → Memᴰ e all) → (s : Spots es) (a : ℕ) →
      (beside (graphs es)).Atom s a → Memᴰ (spot_number es s) G.N × (G.A (spot_number es s) ≡ code_limit + a)
  atom_down (e ∷ es) i (inl x) a q = let r = tied.node e (i e (Memᴰ.head refl)) x.0 x.1 in (r.0, r.1 ∙ ap code q)
  atom_down (e ∷ es) i (inr y) a q = atom_down es (λ o m. i o (Memᴰ.tail m)) y a q
  atom_down [] i s a q = elim s [ ]

  pub arc_down : (es : List Entry) → ((e : Entry) → Memᴰ e es → Memᴰ e all) → (s : Spots es) (f : ℕ) (t : Spots es) →
      (beside (graphs es)).Arc s f t
      → (q : ℕ) × (Memᴰ q G.B × ((G.S q ≡ spot_number es s) × ((get_or F q 0 ≡ f) × (get_or T q 0 ≡ spot_number es t))))
  arc_down (e ∷ es) i (inl x) f (inl y) a = tied.arc e (i e (Memᴰ.head refl)) x.0 f y.0 x.1 a
  arc_down (e ∷ es) i (inl x) f (inr y) a = absurd a
  arc_down (e ∷ es) i (inr x) f (inl y) a = absurd a
  arc_down (e ∷ es) i (inr x) f (inr y) a = arc_down es (λ o m. i o (Memᴰ.tail m)) x f y a
  arc_down [] i s f t a = elim s [ ]

  abbrev num : Spots all → ℕ
  num = spot_number all

  pub same_down : {s t : Spots all} → Same (beside (graphs all)) (roots (beside (graphs all))) s t → pile.Equal G F T (num s) (num t)
  same_down (seed {x} {y} r) = pile.Equal.root (root_down all (λ e m. m) x r.0) (root_down all (λ e m. m) y r.1)
  same_down (self x) = pile.Equal.self (num x)
  same_down (back p) = pile.Equal.back (same_down p)
  same_down (on p q) = pile.Equal.on (same_down p) (same_down q)
  same_down (along {x} {y} {x'} {y'} p f u v) =
      let a = arc_down all (λ e m. m) x f x' u in
      let b = arc_down all (λ e m. m) y f y' v in
      subst (λ (z : ℕ). pile.Equal G F T (num x') z) b.1.1.1.1
      (subst (λ (z : ℕ). pile.Equal G F T z (get_or T b.0 0)) a.1.1.1.1
      (pile.Equal.along a.1.0 b.1.0 (a.1.1.1.0 ∙ sym b.1.1.1.0)
      (subst (λ (z : ℕ). pile.Equal G F T z (G.S b.0)) (sym a.1.1.0)
      (subst (λ (z : ℕ). pile.Equal G F T (num x) z) (sym b.1.1.0) (same_down p)))))

  pub clash_down : Clash (graphs all) → ClashIn G F T
  clash_down (atoms {x} {y} p a b u v ne) =
      let r = atom_down all (λ e m. m) x a u in
      let q = atom_down all (λ e m. m) y b v in
      let ra = r.1 in let qa = q.1 in
      ClashIn.atoms r.0 q.0 (same_down p) (λ z. omega arith) (λ z. omega arith) (λ z. ne (omega arith))
  clash_down (atom_arc {x} {y} p a u f z v) =
      let r = atom_down all (λ e m. m) x a u in
      let q = arc_down all (λ e m. m) y f z v in
      let ra = r.1 in
      ClashIn.mixed r.0 (λ z. omega arith) q.1.0 (subst (λ (n : ℕ). pile.Equal G F T (num x) n) (sym q.1.1.0) (same_down p))

  -- ---- from numbers to spots
  -- a node with an atom
  atom_of : (v : Node) → (code v ≡ 0 → ⊥) → (a : ℕ) × (v ≡ atom a)
  atom_of (atom a) n = (a, refl)
  atom_of (arcs l) n = absurd (n refl)

  pub atom_up : (x : ℕ) → Memᴰ x G.N → (G.A x ≡ 0 → ⊥) →
      (s : Spots all) × ((num s ≡ x) × ((a : ℕ) × ((beside (graphs all)).Atom s a × (G.A x ≡ code_limit + a))))
  atom_up x m n =
      let o = tied.nodes x m in
      let t = spotted all o.e o.j o.one o.below in
      let c : G.A x ≡ code (nodeAt o.e.graph o.j) = ap G.A o.is ∙ (tied.node o.e o.one o.j o.below).1 in
      let a = atom_of (nodeAt o.e.graph o.j) (λ z. n (c ∙ z)) in
      (t.spot, (t.is ∙ sym o.is, (a.0, (t.atom_is a.0 a.1, c ∙ ap code a.1))))

  -- the ends of an arc
  pub ends : (q : ℕ) (m : Memᴰ q G.B) →
      (a : Spots all) × ((b : Spots all) × ((num a ≡ G.S q) × ((num b ≡ get_or T q 0) × (beside (graphs all)).Arc a (get_or F q 0) b)))
  ends q m =
      let o = tied.arcs q m in
      let r = arched all o.e o.j (get_or F q 0) o.to o.one o.below o.inner o.arc in
      (r.from, (r.to, (r.from_is ∙ sym o.source, (r.to_is ∙ sym o.target, r.arc))))

  module _ (apart : EntriesApart all) (r₀ : Spots all) (root₀ : (beside (graphs all)).Root r₀) where
    abbrev SameSpots : Spots all → Spots all → Type 0
    SameSpots = Same (beside (graphs all)) (roots (beside (graphs all)))

    -- the spots that a number stands for: its own, and every root for 0
    abbrev Stands : ℕ → Spots all → Type 0
    Stands x s = (num s ≡ x) ⊎ ((x ≡ 0) × (beside (graphs all)).Root s)

    root_zero : (es : List Entry) (s : Spots es) → spot_number es s ≡ 0 → (beside (graphs es)).Root s
    root_zero (e ∷ es) (inl x) q = omega arith
    root_zero (e ∷ es) (inr y) q = root_zero es y q
    root_zero [] s q = elim s [ ]

    root_up : (x : ℕ) (s : Spots all) → Memᴰ x G.R → Stands x s → (beside (graphs all)).Root s
    root_up x s m (inr q) = q.1
    root_up x s m (inl q) = ⊎_elim
        (λ z. root_zero all s (q ∙ z))
        (λ z. let t = spotted all z.0 0 z.1.0 (tied.some z.0 z.1.0) in let n = t.is in let n' = z.1.1 in
        subst (λ (u : Spots all). (beside (graphs all)).Root u) (spot_one all apart t.spot s (omega arith)) (t.root_is refl))
        (tied.roots x m)

    one_spot : (x : ℕ) (s t : Spots all) → Stands x s → Stands x t → SameSpots s t
    one_spot x s t (inl p) (inl q) = subst (λ (u : Spots all). SameSpots s u) (spot_one all apart s t (p ∙ sym q)) (self s)
    one_spot x s t (inl p) (inr q) = seed (root_zero all s (p ∙ q.0), q.1)
    one_spot x s t (inr p) (inl q) = seed (p.1, root_zero all t (q ∙ p.0))
    one_spot x s t (inr p) (inr q) = seed (p.1, q.1)

    abbrev Good : ℕ → Type 0
    Good x = (s : Spots all) × Stands x s

    root_good : (x : ℕ) → Memᴰ x G.R → Good x
    root_good x m = ⊎_elim
        (λ z. (r₀, inr (z, root₀)))
        (λ z. let t = spotted all z.0 0 z.1.0 (tied.some z.0 z.1.0) in let n = t.is in let n' = z.1.1 in
        (t.spot, inl (omega arith)))
        (tied.roots x m)

    good : {x y : ℕ} → pile.Equal G F T x y → (x ≡ y) ⊎ (Good x × Good y)
    good (pile.Equal.root {x} {y} a b) = inr (root_good x a, root_good y b)
    good (pile.Equal.self x) = inl refl
    good (pile.Equal.back p) = ⊎_elim (λ e. inl (sym e)) (λ g. inr (g.1, g.0)) (good p)
    good (pile.Equal.on {x} {y} {z} p q) = ⊎_elim
        (λ e. ⊎_elim (λ d. inl (e ∙ d)) (λ g. inr (subst Good (sym e) g.0, g.1)) (good q))
        (λ g. ⊎_elim (λ d. inr (g.0, subst Good d g.1)) (λ h. inr (g.0, h.1)) (good q))
        (good p)
    good (pile.Equal.along {p} {q} a b e r) = let s = ends p a in let t = ends q b in
        inr ((s.1.0, inl s.1.1.1.0), (t.1.0, inl t.1.1.1.0))

    pub same_up : {x y : ℕ} → pile.Equal G F T x y → (s t : Spots all) → Stands x s → Stands y t → SameSpots s t
    same_up (pile.Equal.root {x} {y} a b) s t p q = seed (root_up x s a p, root_up y t b q)
    same_up (pile.Equal.self x) s t p q = one_spot x s t p q
    same_up (pile.Equal.back r) s t p q = back (same_up r t s q p)
    same_up (pile.Equal.on {x} {y} {z} r u) s t p q = ⊎_elim
        (λ e. same_up u s t (subst (λ (n : ℕ). Stands n s) e p) q)
        (λ g. on (same_up r s g.1.0 p g.1.1) (same_up u g.1.0 t g.1.1 q))
        (good r)
    same_up (pile.Equal.along {p} {q} a b e r) s t i j =
        let c = ends p a in
        let d = ends q b in
        let m = same_up r c.0 d.0 (inl c.1.1.0) (inl d.1.1.0) in
        let n : SameSpots c.1.0 d.1.0 =
        along m (get_or F p 0) c.1.1.1.1 (subst (λ (f : ℕ). (beside (graphs all)).Arc d.0 f d.1.0) (sym e) d.1.1.1.1) in
        on (one_spot (get_or T p 0) s c.1.0 i (inl c.1.1.1.0)) (on n (one_spot (get_or T q 0) d.1.0 t (inl d.1.1.1.0) j))

    pub clash_up : ClashIn G F T → Clash (graphs all)
    clash_up (ClashIn.atoms {x} {y} mx my p nx ny ne) =
        let a = atom_up x mx nx in
        let b = atom_up y my ny in
        atoms (same_up p a.0 b.0 (inl a.1.0) (inl b.1.0)) a.1.1.0 b.1.1.0 a.1.1.1.0 b.1.1.1.0
        (λ z. ne (a.1.1.1.1 ∙ ap (λ (n : ℕ). code_limit + n) z ∙ sym b.1.1.1.1))
    clash_up (ClashIn.mixed {x} {q} mx nx mq p) =
        let a = atom_up x mx nx in
        let d = ends q mq in
        atom_arc (same_up p a.0 d.0 (inl a.1.0) (inl d.1.1.0)) a.1.1.0 a.1.1.1.0 (get_or F q 0) d.1.0
        d.1.1.1.1
