-- The first kept alternative of a disjunction.
-- Assumes nothing.
use Prim.Native.Nat.{ℕ, suc, ◌<◌}
use native.Mathlib.Omega.{arith}
use mathlib.Core.Path.{◌≡◌, refl, ap, ◌∙◌}
use mathlib.Core.Bool.{Bool, true, false}
use Rattle.engine.specs.Placed.{Placed, Options, no_more, option}
use Rattle.engine.specs.Marks.{Marking, kept_of, keep, keep_any}
use Rattle.modes_by_marks.proofs.Marks.{keep_true, keep_false}
use Rattle.marks.specs.Tallied.{from_kept}

module _ (m : Marking) (x : ℕ) (d : Placed) (a : Options) where
  pub kept_true : m x ≡ true → kept_of m (option x d a) ≡ suc (kept_of m a)
  kept_true e = ap (λ (t : Bool). elim t [ true ↦ suc (kept_of m a) | false ↦ kept_of m a ]) e

  pub kept_false : m x ≡ false → kept_of m (option x d a) ≡ kept_of m a
  kept_false e = ap (λ (t : Bool). elim t [ true ↦ suc (kept_of m a) | false ↦ kept_of m a ]) e

  pub from_true : m x ≡ true → from_kept m (option x d a) ≡ option x d a
  from_true e = ap (λ (t : Bool). elim t [ true ↦ option x d a | false ↦ from_kept m a ]) e

  pub from_false : m x ≡ false → from_kept m (option x d a) ≡ from_kept m a
  from_false e = ap (λ (t : Bool). elim t [ true ↦ option x d a | false ↦ from_kept m a ]) e

-- the first kept one is d, numbered x, and those after it are b
pub record First (m : Marking) (a : Options) : Type 0 where
  pub x : ℕ
  pub d : Placed
  pub b : Options
  pub is : from_kept m a ≡ option x d b
  pub kept : m x ≡ true
  pub count : kept_of m a ≡ suc (kept_of m b)
  pub left : keep_any m a ≡ option x (keep m d) (keep_any m b)

pub first_kept : (m : Marking) (a : Options) → 0 < kept_of m a → First m a
first_kept m no_more h = absurd (omega arith)
first_kept m (option x d a) h = go (first_kept m a) (m x) refl
  where
    go : (0 < kept_of m a → First m a) → (t : Bool) → m x ≡ t → First m (option x d a)
    go on true e = record {
      x = x;
      d = d;
      b = a;
      is = from_true m x d a e;
      kept = e;
      count = kept_true m x d a e;
      left =
          keep_true m x d a e;
    }
    go on false e =
        let same = kept_false m x d a e in
        let f = on (omega arith) in
        record {
          x = f.x;
          d = f.d;
          b = f.b;
          is = from_false m x d a e ∙ f.is;
          kept = f.kept;
          count = same
              ∙ f.count;
          left = keep_false m x d a e ∙ f.left;
        }
