-- The machine case by case, as the functions cite it.
-- Assumes nothing.
use Prim.Native.Nat.{ℕ, ◌+◌, ◌*◌, ◌<◌, ◌≤◌, ◌-◌}
use mathlib.Core.Path.{◌≡◌, refl, sym, ap, subst, ◌∙◌}
use mathlib.Core.Bool.{Bool, true, false}
use native.Mathlib.Omega.{arith}
use Rattle.std.specs.Prelude.{None}
use lib.Dec.{ltb}
use borrow.Author.Tests.{ne_eqb, ltb-true, ltb-false, le-ltb}
use Rattle.signs.specs.declared.machine.Due.{Due}
use Rattle.signs.specs.declared.machine.Place.TheVariants.{Number}
use Rattle.signs.specs.Limits.{largest_number}
use Rattle.signs.specs.Machine.{if_so, seen_at, after_sign, digit_byte, numeral, longer, stepped}

-- a digit's byte
digit_range : (b : ℕ) → digit_byte b ≡ true → (47 < b) × (b < 58)
unfolding digit_byte
digit_range b e = go (ltb b 48) refl e where
  go : (t : Bool) → ltb b 48 ≡ t → if_so t false (ltb b 58) ≡ true → (47 < b) × (b < 58)
  go true q z = let k : ◌≡◌ {A = ℕ} 0 1 = cc in absurd (omega arith)
  go false q z = (omega (arith, ltb-false b 48 q), ltb-true b 58 z)

pub digit_low : (b : ℕ) → digit_byte b ≡ true → 47 < b
digit_low b e = (digit_range b e).0

pub digit_high : (b : ℕ) → digit_byte b ≡ true → b < 58
digit_high b e = (digit_range b e).1

pub digit_not : (b : ℕ) → 48 ≤ b → digit_byte b ≡ ltb b 58
unfolding digit_byte
digit_not b h = ap (λ (t : Bool). if_so t false (ltb b 58)) (le-ltb b 48 h)

pub longer_fits : (d : Due) (v g b m : ℕ) → (v ≡ 0 → ⊥) → m ≡ v * 10 + (b - 48) → m ≤ largest_number → longer d v g b ≡ seen_at (Number d m) g
longer_fits d v g b m z e h = simp (ne_eqb v 0 z, le-ltb largest_number (v * 10 + (b - 48)) (subst (λ (k : ℕ). k ≤ largest_number) e h))
    (ap (λ (k : ℕ). seen_at (Number d k) g) (sym e))

pub number_digit : (d : Due) (v g b : ℕ) → digit_byte b ≡ true → stepped (Number d v) g b ≡ longer d v g b
unfolding stepped
number_digit d v g b e = ap (λ (t : Bool). if_so t (longer d v g b) (after_sign d g b)) e

pub numeral_digit : (d : Due) (g b m : ℕ) → digit_byte b ≡ true → m ≡ b → numeral d g b ≡ seen_at (Number d (m - 48)) g
numeral_digit d g b m e h = ap (λ (t : Bool). if_so t (seen_at (Number d (b - 48)) g) None) e ∙ ap (λ (k : ℕ). seen_at (Number d (k - 48)) g) (sym h)
