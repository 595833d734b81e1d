-- The laws of one label, and of nodes in one class. Assumes nothing.
use mathlib.Core.Path.{◌≡◌, refl, sym, ◌∙◌}
use mathlib.Core.Bool.{Bool, true, false}
use mathlib.Core.Logic.{◌⊎◌, inl, inr, ⊎_elim}
use mathlib.Core.List.{List}
use Prim.Native.Nat.{ℕ}
use native.Mathlib.Omega.{arith}
use lib.Dec.{eqb}
use Rattle.forest.specs.Labels.{Together}
use borrow.Author.Tests.{eq-eqb, ne_eqb, eqb-true, eqb-false}
use Rattle.forest.proofs.Relabel.{relab}

-- ---- one label
pub relab_hit : (from to x : ℕ) → x ≡ from → relab from to x ≡ to
unfolding relab
relab_hit from to x e = rw (eq-eqb x from e) refl

pub relab_miss : (from to x : ℕ) → (x ≡ from → ⊥) → relab from to x ≡ x
unfolding relab
relab_miss from to x n = rw (ne_eqb x from n) refl

-- by cases
pub relab_case : (from to x : ℕ) → ((x ≡ from) × (relab from to x ≡ to)) ⊎ ((x ≡ from → ⊥) × (relab from to x ≡ x))
relab_case from to x = go (eqb x from) refl
  where
    go : (b : Bool) → eqb x from ≡ b → ((x ≡ from) × (relab from to x ≡ to)) ⊎ ((x ≡ from → ⊥) × (relab from to x ≡ x))
    go true e = inl (eqb-true x from e, relab_hit from to x (eqb-true x from e))
    go false e = inr (eqb-false x from e, relab_miss from to x (eqb-false x from e))

-- ---- nodes in one class
pub together_back : (l : List ℕ) (i j : ℕ) → Together l i j → Together l j i
together_back l i j t = (⊎_elim (λ e. inl (sym e)) (λ b. inr (b.1, b.0)) t.0, sym t.1)

pub together_on : (l : List ℕ) (i j k : ℕ) → Together l i j → Together l j k → Together l i k
together_on l i j k s t = (
  ⊎_elim
      (λ e. ⊎_elim (λ f. inl (e ∙ f)) (λ b. let x = b.0 in inr (omega arith, b.1)) t.0)
      (λ a. ⊎_elim (λ f. let x = a.1 in inr (a.0, omega arith)) (λ b. inr (a.0, b.1)) t.0)
      s.0,
  s.1 ∙ t.1,
)
