-- The state after a sign, case by case.
-- Assumes nothing.
use Prim.Native.Nat.{ℕ}
use mathlib.Core.Path.{◌≡◌, ap}
use mathlib.Core.Logic.{◌≢◌}
use mathlib.Core.Bool.{Bool}
use lib.Dec.{eqb}
use borrow.Author.Tests.{eq-eqb, ne_eqb}
use Rattle.signs.specs.Machine.{if_so}

-- a test that is known
pub if_is : {A : Type 0} (k n : ℕ) (x y : A) → k ≡ n → if_so (eqb k n) x y ≡ x
if_is k n x y e = ap (λ (t : Bool). if_so t x y) (eq-eqb k n e)

pub if_not : {A : Type 0} (k n : ℕ) (x y : A) → k ≢ n → if_so (eqb k n) x y ≡ y
if_not k n x y d = ap (λ (t : Bool). if_so t x y) (ne_eqb k n d)
