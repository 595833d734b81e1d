-- Engine's step at one disjunction, by the number of alternatives that are kept.
-- Assumes nothing.
use Prim.Native.Nat.{ℕ, suc}
use native.Mathlib.Omega.{arith}
use mathlib.Core.Path.{◌≡◌, refl, sym, ap, ◌∙◌}
use mathlib.Core.Bool.{Bool, true, false}
use mathlib.Core.List.{List, ◌++◌, Memᴰ}
use Rattle.descriptions.specs.Remnant.{remnant, nothing, alone, several}
use Rattle.theory.specs.Net.{Graph}
use Rattle.theory.specs.Descr.{agree, alts}
use Rattle.engine.specs.Placed.{Placed, Options, no_more, option, strip_any}
use Rattle.engine.specs.Marks.{Marking, kept_of}
use Rattle.engine.specs.Certain.{sure_any, certain_any}
use Rattle.engine.specs.Quickly.{Step, fails, stands, tried, settle_at, try_at, any_at, inside_at, sift_at}
use Rattle.modes_by_marks.specs.Names.{Distinct, DistinctAny, names, names_any}
use Rattle.modes_by_marks.proofs.Marks.{keep_false, keep_any_same, kept_alts}
use Rattle.modes_by_marks.proofs.QuickStep.{Only, try_at_ok, inside_at_ok, any_at_ok}
use Rattle.theory.specs.JoiningOne.{joining_one}
use Rattle.engine.proofs.QuickStep.{sift_at_ok}
use Rattle.marks.proofs.First.{kept_true, kept_false}

-- ---- one disjunction
module _ (S : List Graph) (m : Marking) where
  -- the first is kept, and c beside it
  abbrev any_by : (x : ℕ) (d : Placed) (a : Options) → ℕ → Step
  any_by x d a c = elim (remnant (suc c)) [
    | nothing ↦ fails m
    | alone ↦ inside_at S m d
    | several ↦ settle_at S (sift_at S (tried x (try_at S m d)) a) (option x d a)
  ]

  pub any_dropped : (x : ℕ) (d : Placed) (a : Options) → m x ≡ false → any_at S m (option x d a) ≡ any_at S m a
  unfolding Rattle.modes_by_marks.specs.Quickly.any_at
  any_dropped x d a e = ap (λ (b : Bool). elim b [ false ↦ any_at S m a | true ↦ any_by x d a (kept_of m a) ]) e

  any_kept : (x : ℕ) (d : Placed) (a : Options) → m x ≡ true → any_at S m (option x d a) ≡ any_by x d a (kept_of m a)
  unfolding Rattle.modes_by_marks.specs.Quickly.any_at
  any_kept x d a e = ap (λ (b : Bool). elim b [ false ↦ any_at S m a | true ↦ any_by x d a (kept_of m a) ]) e

  -- none is kept
  pub any_none : (a : Options) → kept_of m a ≡ 0 → any_at S m a ≡ fails m
  unfolding Rattle.modes_by_marks.specs.Quickly.any_at
  any_none no_more z = refl
  any_none (option x d a) z = go (m x) refl (any_none a)
    where
      go : (b : Bool) → m x ≡ b → (kept_of m a ≡ 0 → any_at S m a ≡ fails m) → any_at S m (option x d a) ≡ fails m
      go true e on = absurd (omega (arith, kept_true m x d a e))
      go false e on = any_dropped x d a e ∙ on (sym (kept_false m x d a e) ∙ z)

  -- the one that stands alone
  pub any_alone : (x : ℕ) (d : Placed) (a : Options) → m x ≡ true → kept_of m a ≡ 0 → any_at S m (option x d a) ≡ inside_at S m d
  any_alone x d a e z = any_kept x d a e ∙ ap (any_by x d a) z

  pub sift_dropped : (x : ℕ) (d : Placed) (a : Options) → m x ≡ false → sift_at S m (option x d a) ≡ sift_at S m a
  unfolding Rattle.modes_by_marks.specs.Quickly.sift_at
  sift_dropped x d a e = ap (λ (b : Bool). elim b [ false ↦ sift_at S m a | true ↦ sift_at S (tried x (try_at S m d)) a ]) e

  pub sift_kept : (x : ℕ) (d : Placed) (a : Options) → m x ≡ true → sift_at S m (option x d a) ≡ sift_at S (tried x (try_at S m d)) a
  unfolding Rattle.modes_by_marks.specs.Quickly.sift_at
  sift_kept x d a e = ap (λ (b : Bool). elim b [ false ↦ sift_at S m a | true ↦ sift_at S (tried x (try_at S m d)) a ]) e

-- a dropped alternative does not count when its disjunction is settled
settle_dropped : (S : List Graph) (m : Marking) (x : ℕ) (d : Placed) (a : Options) → m x ≡ false →
    settle_at S m (option x d a) ≡ settle_at S m a
settle_dropped S m x d a e = ap (settling S m) (kept_false m x d a e)
    ∙ ap (λ (l : List Graph). settled_by S m l (kept_of m a)) (ap (λ (o : Options). sure_any (strip_any o)) (keep_false m x d a e))
  where
    settled_by : List Graph → Marking → List Graph → ℕ → Step
    settled_by S m l c = elim (remnant c) [
      | nothing ↦ fails m
      | alone ↦ elim (agree (S ++ l)) [ false ↦ fails m | true ↦ stands (S ++ l) m ]
      | several ↦ stands S m
    ]

    settling : List Graph → Marking → ℕ → Step
    settling S m c = settled_by S m (certain_any m (option x d a)) c

-- several are kept: each is tried, and then the disjunction is settled
pub any_several : (S : List Graph) (m : Marking) (a : Options) → DistinctAny a → (l : ℕ) → kept_of m a ≡ suc (suc l) →
    any_at S m a ≡ settle_at S (sift_at S m a) a
any_several S m no_more w l z = absurd (omega arith)
any_several S m (option x d a) w l z = go (m x) refl (any_several S m a w.1 l)
  where
    go : (b : Bool) → m x ≡ b → (kept_of m a ≡ suc (suc l) → any_at S m a ≡ settle_at S (sift_at S m a) a) →
        any_at S m (option x d a) ≡ settle_at S (sift_at S m (option x d a)) (option x d a)
    go true e on =
        let y : kept_of m a ≡ suc l = omega (arith, kept_true m x d a e) in
        any_kept S m x d a e ∙ ap (any_by S m x d a) y
        ∙ ap (λ (n : Marking). settle_at S n (option x d a)) (sym (sift_kept S m x d a e))
    go false e on =
        let still : sift_at S m a x ≡ false = (sift_at_ok a w.1 S m).1 x (λ i. w.3 x (Memᴰ.head refl) i) ∙ e in
        any_dropped S m x d a e ∙ on (sym (kept_false m x d a e) ∙ z) ∙ sym (settle_dropped S (sift_at S m a) x d a still)
        ∙ ap (λ (n : Marking). settle_at S n (option x d a)) (sym (sift_dropped S m x d a e))

-- ---- the marks of these names are the same
abbrev pub Alike : Marking → Marking → List ℕ → Type 0
Alike k k' l = (y : ℕ) → Memᴰ y l → k' y ≡ k y

pub kept_alike : (k k' : Marking) (a : Options) → Alike k k' (names_any a) → kept_of k' a ≡ kept_of k a
kept_alike k k' a s = kept_alts k' a ∙ ap (λ (o : Options). alts (strip_any o)) (keep_any_same a k' k s) ∙ sym (kept_alts k a)

-- ---- a step changes only marks of what it goes through
module _ (S : List Graph) (m n : Marking) where
  pub try_only : (d : Placed) → Distinct d → try_at S m d ≡ fails n → Only (names d) m n
  try_only d w e = (rw e at (try_at_ok joining_one d w S m)).1

  module _ (T : List Graph) where
    pub inside_only : (d : Placed) → Distinct d → inside_at S m d ≡ stands T n → Only (names d) m n
    inside_only d w e = (rw e at (inside_at_ok joining_one d w S m)).1

    pub any_only : (a : Options) → DistinctAny a → any_at S m a ≡ stands T n → Only (names_any a) m n
    any_only a w e = (rw e at (any_at_ok joining_one a w S m)).1
