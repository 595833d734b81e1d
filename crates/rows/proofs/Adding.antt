-- What a sign gives is added to what the memory holds.
-- Assumes nothing.
use Prim.Native.Nat.{ℕ, suc, ◌+◌, ◌<◌, ◌≤◌}
use mathlib.Core.Path.{◌≡◌, refl, sym, ap, ap₂, subst, ◌∙◌}
use mathlib.Core.Bool.{Bool, true, false}
use mathlib.Core.List.{List, [], ◌∷◌, ◌++◌, append-nil}
use native.Mathlib.Omega.{arith}
use lib.ListN.{length}
use lib.Dec.{eqb}
use borrow.Author.Tests.{eqb-true, eqb-false}
use Rattle.theory.specs.Join.{Edge}
use Rattle.formulas.specs.Sheet.{of_edges, of_atom, of_tie}
use Rattle.signs.specs.Machine.{if_so}
use Rattle.rows.specs.Machine.{Alt, Out, ◌then◌, homed, begins, OpenFrame}
use Rattle.rows.specs.Plan.{renewed, lasts, none_yet}
use Rattle.rows.specs.Memory.{Memory, ListedFrom}
use Rattle.rows.specs.Laid.{mapped, arc_word, home_of_arc, pair_word, pair_home}
use Rattle.rows.specs.Held.{alt_group, alt_spot, befores, FramesStand, with_row, with_alternative, with_frame, Held}
use Rattle.rows.proofs.Memory.{put_here, put_else, listed_put}
use Rattle.rows.proofs.Lies.{lasts_both}
use Rattle.rows.proofs.Holding.{mapped_long, befores_long}

mapped_more : {A : Type 0} (f : A → ℕ) (l : List A) (x : A) → mapped f (l ++ (x ∷ [])) ≡ mapped f l ++ (f x ∷ [])
mapped_more f [] x = refl
mapped_more f (y ∷ l) x = ap (λ (m : List ℕ). f y ∷ m) (mapped_more f l x)

befores_more : (f : ℕ → ℕ) (k : ℕ) (A : List Alt) (a : Alt) → befores f k (A ++ (a ∷ [])) ≡ befores f k A ++ (lasts f k A a.owner ∷ [])
befores_more f k [] a = refl
befores_more f k (b ∷ A) a = ap (λ (m : List ℕ). f b.owner ∷ m) (befores_more (renewed f b.owner k) (suc k) A a)

-- a row at the end of its list
row_put : {A : Type 0} (g : ℕ → ℕ) (m i : ℕ) (f : A → ℕ) (l : List A) (x : A) → i ≡ m + length l → ListedFrom g m (mapped f l) →
    ListedFrom (λ j. if_so (eqb j i) (f x) (g j)) m (mapped f (l ++ (x ∷ [])))
row_put g m i f l x e p =
    let n = mapped_long f l in
    subst (ListedFrom (λ j. if_so (eqb j i) (f x) (g j)) m) (sym (mapped_more f l x))
    (listed_put g m i (f x) (mapped f l) (omega (arith, e, n)) p)

pub held_arc : (M : Memory) (D : Out) (k h i : ℕ) (e : Edge) → i ≡ length D.arcs → Held M D k →
    Held (with_row M 0 i (arc_word (h, e)) h) (D then homed h (of_edges (e ∷ []))) k
held_arc M D k h i e n p =
    let grown : D then homed h (of_edges (e ∷ [])) ≡ record {
      arcs = D.arcs ++ ((h, e) ∷ []);
      bears = D.bears;
      shares = D.shares;
      alts =
          D.alts;
    } =
    λ z. record {
      arcs = D.arcs ++ ((h, e) ∷ []);
      bears = append-nil D.bears z;
      shares = append-nil D.shares z;
      alts = append-nil D.alts z;
    } in
    subst (λ (y : Out). Held (with_row M 0 i (arc_word (h, e)) h) y k) (sym grown)
    (record {
      arcs = row_put (M 0) 0 i arc_word D.arcs (h, e) (omega (arith, n)) p.arcs;
      homes = row_put (M 1) 0 i home_of_arc D.arcs (h, e) (omega (arith, n)) p.homes;
      atoms = p.atoms;
      atom_homes = p.atom_homes;
      ties = p.ties;
      tie_homes = p.tie_homes;
      groups = p.groups;
      before = p.before;
      spots = p.spots;
      root = p.root;
      last = p.last;
    })

pub held_atom : (M : Memory) (D : Out) (k h i s a : ℕ) → i ≡ length D.bears → Held M D k →
    Held (with_row M 2 i (pair_word (h, (s, a))) h) (D then homed h (of_atom s a)) k
held_atom M D k h i s a n p =
    let x : ℕ × (ℕ × ℕ) = (h, (s, a)) in
    let grown : D then homed h (of_atom s a) ≡ record { arcs = D.arcs; bears = D.bears ++ (x ∷ []); shares = D.shares; alts = D.alts } =
    λ z. record {
      arcs = append-nil D.arcs z;
      bears = D.bears ++ (x ∷ []);
      shares = append-nil D.shares z;
      alts = append-nil D.alts z;
    } in
    subst (λ (y : Out). Held (with_row M 2 i (pair_word x) h) y k) (sym grown)
    (record {
      arcs = p.arcs;
      homes = p.homes;
      atoms = row_put (M 2) 0 i pair_word D.bears x (omega (arith, n)) p.atoms;
      atom_homes = row_put (M 3) 0 i pair_home D.bears x (omega (arith, n)) p.atom_homes;
      ties = p.ties;
      tie_homes = p.tie_homes;
      groups = p.groups;
      before = p.before;
      spots = p.spots;
      root = p.root;
      last = p.last;
    })

pub held_tie : (M : Memory) (D : Out) (k h i s t : ℕ) → i ≡ length D.shares → Held M D k →
    Held (with_row M 4 i (pair_word (h, (s, t))) h) (D then homed h (of_tie [] s t)) k
held_tie M D k h i s t n p =
    let x : ℕ × (ℕ × ℕ) = (h, (s, t)) in
    let grown : D then homed h (of_tie [] s t) ≡ record {
      arcs = D.arcs;
      bears = D.bears;
      shares = D.shares ++ (x ∷ []);
      alts =
          D.alts;
    } =
    λ z. record {
      arcs = append-nil D.arcs z;
      bears = append-nil D.bears z;
      shares = D.shares ++ (x ∷ []);
      alts = append-nil D.alts z;
    } in
    subst (λ (y : Out). Held (with_row M 4 i (pair_word x) h) y k) (sym grown)
    (record {
      arcs = p.arcs;
      homes = p.homes;
      atoms = p.atoms;
      atom_homes = p.atom_homes;
      ties = row_put (M 4) 0 i pair_word D.shares x (omega (arith, n)) p.ties;
      tie_homes = row_put (M 5) 0 i pair_home D.shares x (omega (arith, n)) p.tie_homes;
      groups = p.groups;
      before = p.before;
      spots = p.spots;
      root = p.root;
      last = p.last;
    })

-- a new alternative k of o
pub held_begun : (M : Memory) (D : Out) (k o g s d : ℕ) → k ≡ suc (length D.alts) → o < k → lasts none_yet 1 D.alts k ≡ 0 →
    Held M D k →
    Held (with_alternative M k o g s) (D then begins o g s d) (suc k)
held_begun M D k o g s d n b fresh p =
    let a : Alt = record { owner = o; group = g; spot = s; depth = d } in
    let A = D.alts in
    let L = lasts none_yet 1 A in
    let grown : D then begins o g s d ≡ record { arcs = D.arcs; bears = D.bears; shares = D.shares; alts = A ++ (a ∷ []) } =
    λ z. record {
      arcs = append-nil D.arcs z;
      bears = append-nil D.bears z;
      shares = append-nil D.shares z;
      alts = A ++ (a ∷ []);
    } in
    let l = befores_long none_yet 1 A in
    let old : M 8 o ≡ L o = p.last o b in
    let put = listed_put (M 7) 1 k (M 8 o) (befores none_yet 1 A) (omega (arith, n, l)) p.before in
    subst (λ (y : Out). Held (with_alternative M k o g s) y (suc k)) (sym grown)
    (record {
      arcs = p.arcs;
      homes = p.homes;
      atoms = p.atoms;
      atom_homes = p.atom_homes;
      ties = p.ties;
      tie_homes = p.tie_homes;
      groups = row_put (M 6) 1 k alt_group A a (omega (arith, n)) p.groups;
      before = subst (ListedFrom (λ j. if_so (eqb j k) (M 8 o) (M 7 j)) 1)
          (ap (λ (v : ℕ). befores none_yet 1 A ++ (v ∷ [])) old ∙ sym (befores_more none_yet 1 A a)) put;
      spots = row_put (M 9) 1 k alt_spot A a (omega (arith, n)) p.spots;
      root = put_else (M 9) k s 0 (λ z. omega (arith, z, n)) ∙ p.root;
      last = λ j q. go j q (eqb j k) refl ∙ sym (lasts_both none_yet 1 A (a ∷ []) j);
    })
  where
    go : (j : ℕ) → j < suc k → (t : Bool) → eqb j k ≡ t →
        if_so t 0 (if_so (eqb j o) k (M 8 j)) ≡ renewed (lasts none_yet 1 D.alts) o (1 + length D.alts) j
    go j q true e =
        let z = eqb-true j k e in
        sym (put_else (lasts none_yet 1 D.alts) o (1 + length D.alts) j (λ y. omega (arith, y, z, b))
        ∙ ap (lasts none_yet 1 D.alts) z ∙ fresh)
    go j q false e =
        let z = eqb-false j k e in
        let y : k ≡ 1 + length D.alts = omega (arith, n) in
        ap₂ {C = ℕ} (λ (u v : ℕ). if_so (eqb j o) u v) y (p.last j (omega arith))

-- what stands open
frames_kept : (bs hs gs ds bs' hs' gs' ds' : ℕ → ℕ) (i : ℕ) (fs : List OpenFrame) → length fs ≤ i → ((j : ℕ) → j < i → bs' j ≡ bs j) →
    ((j : ℕ) → j < i → hs' j ≡ hs j) → ((j : ℕ) → j < i → gs' j ≡ gs j) → ((j : ℕ) → j < i → ds' j ≡ ds j) → FramesStand bs hs gs ds fs →
    FramesStand bs' hs' gs' ds' fs
frames_kept bs hs gs ds bs' hs' gs' ds' i [] l a b c d p = tt
frames_kept bs hs gs ds bs' hs' gs' ds' i (f ∷ fs) l a b c d p = (
  a (length fs) (omega arith) ∙ p.0,
  b (length fs) (omega arith) ∙ p.1,
  c (length fs) (omega arith) ∙ p.2,
  d (length fs) (omega arith) ∙ p.3,
  frames_kept bs hs gs ds bs' hs' gs' ds' i fs (omega arith) a b c d p.4,
)

pub frames_more : (M : Memory) (i : ℕ) (f : OpenFrame) (fs : List OpenFrame) → i ≡ length fs → FramesStand (M 10) (M 11) (M 12) (M 13) fs →
    let M' = with_frame M i f in
    FramesStand (M' 10) (M' 11) (M' 12) (M' 13) (f ∷ fs)
frames_more M i f fs e p =
    let put : (g : ℕ → ℕ) (x : ℕ) → if_so (eqb (length fs) i) x (g (length fs)) ≡ x =
    λ g x. ap (λ (z : ℕ). if_so (eqb (length fs) z) x (g (length fs))) e ∙ put_here g (length fs) x in
    let kept : (g : ℕ → ℕ) (x : ℕ) (j : ℕ) → j < i → if_so (eqb j i) x (g j) ≡ g j = λ g x j l. put_else g i x j (λ z. omega arith) in
    let M' = with_frame M i f in (
      put (M 10) f.base,
      put (M 11) f.home,
      put (M 12) f.group,
      put (M 13) f.depth,
      frames_kept (M 10) (M 11) (M 12) (M 13) (M' 10) (M' 11) (M' 12) (M' 13) i fs (omega arith) (kept (M 10) f.base)
          (kept (M 11) f.home)
          (kept (M 12) f.group) (kept (M 13) f.depth) p,
    )
