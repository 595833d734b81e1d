-- Laws of sums and products that stop at a limit.
-- Assumes nothing.
use Prim.Native.Nat.{ℕ, ◌*◌, ◌≤◌, min}
use native.Mathlib.Omega.{arith}
use native.Mathlib.Nat.{mul_comm, mul_assoc, mul-one, mul-le-mul, lt_of_le_of_lt}
use mathlib.Core.Path.{◌≡◌, sym, ap, ◌∙◌}
use lib.Dec.{lit<}
use mir.Syntax.{w32}
use mir.Val.{Fits}
use Rattle.theory.specs.Limits.{choice_stop}
use Rattle.descriptions.proofs.Counting.{cap_one}

module _ (L : ℕ) where
  -- a factor counts up to the limit
  pub cap_same : (x y P R : ℕ) → min x L ≡ min y L → min (P * (x * R)) L ≡ min (P * (y * R)) L
  cap_same x y P R e = to x ∙ ap (λ (z : ℕ). min ((P * R) * z) L) e ∙ sym (to y)
    where
      to : (z : ℕ) → min (P * (z * R)) L ≡ min ((P * R) * min z L) L
      to z = ap (λ (k : ℕ). min k L) (ap (λ (k : ℕ). P * k) (mul_comm z R) ∙ sym (mul_assoc P R z)) ∙ sym (cap_one L (P * R) z)

  -- a product of two may stop first
  pub cap_first : (P x R : ℕ) → min (P * (x * R)) L ≡ min (min (P * x) L * R) L
  cap_first P x R = ap (λ (k : ℕ). min k L) (sym (mul_assoc P x R) ∙ mul_comm (P * x) R) ∙ sym (cap_one L R (P * x))
      ∙ ap (λ (k : ℕ). min k L) (mul_comm R (min (P * x) L))

  pub cap_whole : (P : ℕ) → P ≤ L → min (P * 1) L ≡ P
  cap_whole P h = let e = mul-one P in omega arith

-- two numbers that stop so early have a product that fits
pub cap_fits : {x y : ℕ} → x ≤ choice_stop → y ≤ choice_stop → Fits w32 (x * y)
cap_fits h k = record { fits = lt_of_le_of_lt (mul-le-mul h k) (lit< tt) }
