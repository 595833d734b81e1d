-- A flat graph whose leaves say nothing or what the roots say agrees with the graphs that are pushed: a structure of the classes, and
-- of the leaves with features that the roots do not have, satisfies them all.
-- Assumes nothing.
use mathlib.Core.Path.{◌≡◌, refl, sym, ap, ◌∙◌, subst}
use mathlib.Core.Logic.{◌⊎◌, inl, inr, ⊎_elim}
use mathlib.Core.List.Memᴰ
use mathlib.Core.List.{List, [], ◌∷◌, ◌++◌, Memᴰ}
use Prim.Native.Nat.{ℕ, zero, suc, ◌+◌, ◌*◌, ◌<◌}
use native.Mathlib.Omega.{arith}
use lib.ListN.{length, get_or}
use Rattle.theory.specs.Limits.{code_limit}
use Rattle.theory.specs.Net.{Node, atom, Graph, nodeAt, arcsOf, beside, Rising, Agree}
use Rattle.theory.specs.Structure.{Structure, Into, Satisfies, SatisfiesAll}
use Rattle.theory.proofs.Meaning.{beside_all, clash_unsatisfied}
use Rattle.theory.proofs.Fit.{numbered_rising, rising_one}
use Rattle.area.specs.Region.{loaded_words}
use Rattle.loading.specs.Entry.{Entry, graphs}
use Rattle.forest.specs.Held.{ChainCode}
use Rattle.forest.specs.State.{targets, Chain, First, None}
use Rattle.classes.specs.Entry.{Spots, spot_number, Comes}
use Rattle.classes.specs.Holds.{Holds, class}
use Rattle.classes.proofs.Content.{Content}
use Rattle.forest.proofs.Links.{first_case, first_det, none_first}
use Rattle.forest.proofs.Places.{chain_det}
use Rattle.classes.proofs.Added.{arcs_find}
use Rattle.classes.proofs.Writer.{spot_low, class_low, class_top, class_root, content}
use Rattle.trying.specs.Leaf.{feature, leaf_head, FirstLeaves}
use Rattle.trying.proofs.Suiting.{root_chain}
use Rattle.trying.proofs.Flatness.{head, Bare, head_none, head_atom, fits_at, Flat, head_is, arc_is}

satisfies_append : (S : Structure) (a b : List Graph) → SatisfiesAll S a → SatisfiesAll S b → SatisfiesAll S (a ++ b)
satisfies_append S [] b s t = t
satisfies_append S (g ∷ a) b s t = (s.0, satisfies_append S a b s.1 t)

module _ (n : ℕ) (es : List Entry) (k : ℕ) (w : List ℕ) (e : Entry) (h : Holds n es k w) (c : Comes n es e w) (d : ℕ)
    (fl : Flat (loaded_words w) (targets w) e.number (e.at + 1) d e.graph)
    (some : length e.graph ≡ suc d) (ls : FirstLeaves n w e.at e.number d d) (low : ChainCode (get_or w (class h 0) 0)) where
  abbrev F : List ℕ
  F = loaded_words w

  abbrev T : List ℕ
  T = targets w

  abbrev under : ℕ → ℕ
  under i = feature w e.at i

  abbrev says : ℕ → ℕ
  says i = leaf_head w e.at d i

  -- ---- the graph
  bare : (i : ℕ) → i < d → Bare (says i)
  bare i l = ⊎_elim (λ z. inl z) (λ z. inr z.0) (ls i l).says

  node_is : (i : ℕ) → i < d → head (nodeAt e.graph (suc i)) ≡ says i
  node_is i l = head_is w e d fl i l (λ j q. bare j (omega arith))

  in_list : (i : ℕ) → i < d → Memᴰ (under i, suc i) fl.l
  in_list i l = arc_is w e d fl i l (ls i l).next

  arc_one : (i j : ℕ) → i < d → j < d → under i ≡ under j → i ≡ j
  arc_one i j a b z =
      let up = subst (λ (v : Node). Rising 0 (arcsOf v)) fl.root (numbered_rising 0 1 e.graph c.canonical 0) in
      let y = rising_one 0 fl.l up (under j) (suc i) (suc j) (subst (λ (f : ℕ). Memᴰ (f, suc i) fl.l) z (in_list i a))
      (in_list j b) in
      omega arith

  -- ---- the structure: a class, or a leaf with a feature that the roots do not have
  abbrev Place : Type 0
  Place = ℕ ⊎ ℕ

  abbrev Has : Place → ℕ → Type 0
  Has (inl x) a = get_or w x 0 ≡ code_limit + a
  Has (inr i) a = says i ≡ code_limit + a

  -- an arc of a class, as its chain has it
  record Old (x f : ℕ) (y : Place) : Type 0 where
    small : ChainCode (get_or w x 0)
    xs : List ℕ
    chain : Chain w (get_or w x 0) xs
    q : ℕ
    first : First F f xs q
    is : y ≡ inl (class h (get_or T q 0))

  -- an arc to such a leaf
  record New (x f : ℕ) (y : Place) : Type 0 where
    root : x ≡ class h 0
    i : ℕ
    below : i < d
    here : under i ≡ f
    none : (xs : List ℕ) → Chain w (get_or w x 0) xs → None F f xs
    is : y ≡ inr i

  abbrev Goes : Place → ℕ → Place → Type 0
  Goes (inl x) f y = Old x f y ⊎ New x f y
  Goes (inr i) f y = ⊥

  one_atom : (x : Place) (a b : ℕ) → Has x a → Has x b → a ≡ b
  one_atom (inl x) a b p q = omega arith
  one_atom (inr i) a b p q = omega arith

  one_target : (x : Place) (f : ℕ) (y z : Place) → Goes x f y → Goes x f z → y ≡ z
  one_target (inl x) f y z (inl p) (inl q) =
      let same = chain_det w (get_or w x 0) p.xs q.xs p.chain q.chain in
      let s : p.q ≡ q.q = first_det F f q.xs p.q q.q (subst (λ (l : List ℕ). First F f l p.q) same p.first) q.first in
      p.is ∙ ap {B = Place} (λ (i : ℕ). inl (class h (get_or T i 0))) s ∙ sym q.is
  one_target (inl x) f y z (inl p) (inr q) = absurd (none_first F f p.xs p.q (q.none p.xs p.chain) p.first)
  one_target (inl x) f y z (inr p) (inl q) = absurd (none_first F f q.xs q.q (p.none q.xs q.chain) q.first)
  one_target (inl x) f y z (inr p) (inr q) = p.is
      ∙ ap {B = Place} inr (arc_one p.i q.i p.below q.below (p.here ∙ sym q.here)) ∙ sym q.is
  one_target (inr i) f y z p q = absurd p

  no_arcs : (x : Place) (a f : ℕ) (y : Place) → Has x a → Goes x f y → ⊥
  no_arcs (inl x) a f y p (inl q) = let s = q.small in omega arith
  no_arcs (inl x) a f y p (inr q) = let s : get_or w x 0 ≡ get_or w (class h 0) 0 = ap (λ (z : ℕ). get_or w z 0) q.root in omega arith
  no_arcs (inr i) a f y p q = q

  abbrev model : Structure
  model = record {
    Carrier = Place;
    start = inl (class h 0);
    Has = Has;
    Goes = Goes;
    one_atom = one_atom;
    one_target = one_target;
    no_arcs =
        no_arcs;
  }

  -- ---- it satisfies the graphs that are pushed
  holding : (s : Spots es) → Content es (class h) w (class h (spot_number es s))
  holding s =
      let l = spot_low n es k w h s in
      let m = class_low n es k w h (spot_number es s) l in
      content n es k w h (class h (spot_number es s)) (omega arith) (class_top n es k w h (spot_number es s) l)

  pushed : Into (beside (graphs es)) model
  pushed = record {
    to = λ s. inl (class h (spot_number es s));
    root_to = λ s r. ap {B = Place} inl (class_root n es k w h s r);
    atom_to = λ s a u. (holding s).atom_in s a u refl;
    arc_to = λ s f t u.
        let r = (holding s).arc_in s f t u refl in
        inl (record {
          small = r.0;
          xs = (holding s).chain;
          chain = (holding s).linked r.0;
          q = r.1.0;
          first = r.1.1.0;
          is =
              ap {B = Place} inl (sym r.1.1.1);
        });
  }

  -- ---- and the one that comes
  have : (xs : List ℕ) × Chain w (get_or w (class h 0) 0) xs
  have = let i = c.inside in root_chain n es k w h (omega arith) low

  abbrev leaf_to : (i : ℕ) → ((q : ℕ) × First F (under i) have.0 q) ⊎ None F (under i) have.0 → Place
  leaf_to i (inl p) = inl (class h (get_or T p.0 0))
  leaf_to i (inr z) = inr i

  abbrev to : ℕ → Place
  to zero = inl (class h 0)
  to (suc i) = leaf_to i (first_case F (under i) have.0)

  atom_to : (j a : ℕ) → j < length e.graph → nodeAt e.graph j ≡ atom a → Has (to j) a
  atom_to zero a l u = let r = fl.root in let z : ◌≡◌ {A = ℕ} 0 1 = cc in absurd (omega arith)
  atom_to (suc i) a l u = go (first_case F (under i) have.0)
    where
      v : says i ≡ code_limit + a
      v = sym (node_is i (omega arith)) ∙ ap head u

      go : (r : ((q : ℕ) × First F (under i) have.0 q) ⊎ None F (under i) have.0) → Has (leaf_to i r) a
      go (inl p) = ⊎_elim
          (λ z. absurd (omega (arith, v)))
          (λ z. z.1 es k h p.0 (λ xs t. subst (λ (l : List ℕ). First F (under i) l p.0)
          (chain_det w (get_or w (class h 0) 0) have.0 xs have.1 t) p.1) ∙ v)
          (ls i (omega arith)).says
      go (inr z) = v

  no_arc : (i : ℕ) (p : ℕ × ℕ) → i < d → Memᴰ p (arcsOf (nodeAt e.graph (suc i))) → ⊥
  no_arc i p l m = ⊎_elim
      (λ z. Memᴰ.not-nil (subst (λ (v : Node). Memᴰ p (arcsOf v)) (head_none (nodeAt e.graph (suc i)) (node_is i l ∙ z)) m))
      (λ z.
      let y = node_is i l in
      let a = head_atom (nodeAt e.graph (suc i)) (fits_at e.graph c.fits (suc i) (omega arith)) (omega arith) in
      Memᴰ.not-nil (subst (λ (v : Node). Memᴰ p (arcsOf v)) a.1 m))
      (bare i l)

  arc_to : (j f t : ℕ) → j < length e.graph → Memᴰ (f, t) (arcsOf (nodeAt e.graph j)) → Goes (to j) f (to t)
  arc_to zero f t l m =
      let r = arcs_find F T (λ z. z) e.number fl.l (e.at + 1 + 1) fl.arcs_lie f t
      (subst (λ (v : Node). Memᴰ (f, t) (arcsOf v)) fl.root m) in
      let i = r.0 in
      let b : i < length fl.l = r.1.0 in
      let o = fl.many in
      let p : e.at + 1 + 1 + 2 * i ≡ e.at + 2 + 2 * i = omega arith in
      let u : under i ≡ f = (rw p at r.1.1.0) in
      let y : get_or T (e.at + 2 + 2 * i) 0 ≡ e.number + t = (rw p at r.1.1.1) in
      let x : suc i ≡ t = omega (arith, (ls i (omega arith)).next) in
      subst (λ (s : ℕ). Goes (inl (class h 0)) f (to s)) x
      (subst (λ (f : ℕ). Goes (inl (class h 0)) f (to (suc i))) u (go i (omega arith) (first_case F (under i) have.0)))
    where
      go : (i : ℕ) → i < d → (r : ((q : ℕ) × First F (under i) have.0 q) ⊎ None F (under i) have.0) →
          Goes (inl (class h 0)) (under i) (leaf_to i r)
      go i b (inl p) = inl (record { small = low; xs = have.0; chain = have.1; q = p.0; first = p.1; is = refl })
      go i b (inr z) = inr (record {
        root = refl;
        i = i;
        below = b;
        here = refl;
        none =
            λ xs t. subst (None F (under i)) (chain_det w (get_or w (class h 0) 0) have.0 xs have.1 t) z;
        is = refl;
      })
  arc_to (suc i) f t l m = absurd (no_arc i (f, t) (omega arith) m)

  coming : Satisfies model e.graph
  coming = record {
    to = λ x. to x.0;
    root_to = λ x r. ap to r;
    atom_to = λ x a u. atom_to x.0 a x.1 u;
    arc_to =
        λ x f y u. arc_to x.0 f y.0 x.1 u;
  }

  pub flat_agrees : Agree (graphs es ++ e.graph ∷ [])
  flat_agrees z = clash_unsatisfied (graphs es ++ e.graph ∷ []) z model
      (satisfies_append model (graphs es) (e.graph ∷ []) (beside_all model (graphs es) pushed) (coming, tt))
