-- Writing a word for a sign keeps the words of the signs before it.
-- Assumes nothing.
use Prim.Native.Nat.{ℕ, ◌+◌, ◌*◌, ◌<◌, ◌≤◌, ◌-◌}
use mathlib.Core.Path.{◌≡◌, refl, sym, ap, subst, ◌∙◌}
use mathlib.Core.Bool.{Bool, true, false}
use mathlib.Core.List.{List, [], ◌∷◌}
use native.Mathlib.Omega.{arith}
use lib.ListN.{length, get_or, set}
use lib.Seq.{get_or-set_same, get_or-set_other}
use lib.Dec.{eqb}
use borrow.Author.Tests.{eqb-true}
use Rattle.signs.specs.declared.machine.Due.{Due}
use Rattle.signs.specs.declared.machine.Due.TheVariants.{Operand, Colon, Path, Steps, Listed, After}
use Rattle.signs.specs.declared.machine.Place.{Place}
use Rattle.signs.specs.declared.machine.Place.TheVariants.{Start, Clean, Spaced, Number, Within}
use Rattle.signs.specs.Limits.{kind_unit}
use Rattle.signs.specs.Signs.{Sign, nil_sign, top_sign, mark, sign_word}
use Rattle.signs.specs.Machine.{if_so, NumberLast, slot_of, ended_by, number_sign, others, number_noted, noted, SignsStand}
use Rattle.signs.specs.Machine.{SignsNoted}

holds_set : (w : List ℕ) (ss : List Sign) (i v : ℕ) → length ss ≤ i → SignsStand w ss → SignsStand (set w i v) ss
holds_set w [] i v h o = tt
holds_set w (s ∷ ss) i v h o =
    (get_or-set_other w i (length ss) v 0 (λ e. absurd (omega arith)) ∙ o.0, holds_set w ss i v (omega arith) o.1)

pushed : (w : List ℕ) (ss : List Sign) (s : Sign) (i v : ℕ) → i < length w → i ≡ length ss → v ≡ sign_word s → SignsStand w ss →
    SignsStand (set w i v) (s ∷ ss)
pushed w ss s i v h e q o = (ap (λ (k : ℕ). get_or (set w i v) k 0) (sym e) ∙ get_or-set_same w i v 0 h ∙ q, holds_set w ss i v (omega arith) o)

pushed_notes : (s : Sign) (w : List ℕ) (n v : ℕ) → n < length w → v ≡ sign_word s → SignsNoted (λ ss. s ∷ ss) w n (set w n v) (n + 1)
pushed_notes s w n v h q ss o e = (pushed w ss s n v h e q o, omega arith)

over_last : (s : Sign) (w : List ℕ) (n v : ℕ) → 0 < n → n < length w → v ≡ sign_word s →
    SignsNoted (λ ss. s ∷ others ss) w n (set w (n - 1) v) (n - 1 + 1)
over_last s w n v z h q [] o e = absurd (omega arith)
over_last s w n v z h q (x ∷ ss) o e = (pushed w ss s (n - 1) v (omega arith) (omega arith) q o.1, omega arith)

-- a number's word is written
pub number_notes : (old : Place) (s : Sign) (w : List ℕ) (n i v : ℕ) → NumberLast old n → n < length w → i ≡ slot_of old n →
    v ≡ sign_word s →
    SignsNoted (number_noted old s) w n (set w i v) (i + 1)
number_notes Start s w n i v l h e q = subst (λ (k : ℕ). SignsNoted (λ ss. s ∷ ss) w n (set w k v) (k + 1)) (sym e)
    (pushed_notes s w n v h q)
number_notes (Clean d) s w n i v l h e q =
    subst (λ (k : ℕ). SignsNoted (λ ss. s ∷ ss) w n (set w k v) (k + 1)) (sym e) (pushed_notes s w n v h q)
number_notes (Spaced d) s w n i v l h e q =
    subst (λ (k : ℕ). SignsNoted (λ ss. s ∷ ss) w n (set w k v) (k + 1)) (sym e) (pushed_notes s w n v h q)
number_notes (Number d x) s w n i v l h e q =
    subst (λ (k : ℕ). SignsNoted (λ ss. s ∷ others ss) w n (set w k v) (k + 1)) (sym e) (over_last s w n v l h q)
number_notes (Within p) s w n i v l h e q =
    subst (λ (k : ℕ). SignsNoted (λ ss. s ∷ ss) w n (set w k v) (k + 1)) (sym e) (pushed_notes s w n v h q)

pub letter_word : (d : Due) (v : ℕ) → sign_word (number_sign d 0) + v ≡ sign_word (number_sign d v)
unfolding sign_word
letter_word Operand v = omega arith
letter_word Colon v = omega arith
letter_word Path v = omega arith
letter_word Steps v = omega arith
letter_word Listed v = omega arith
letter_word After v = omega arith

pub letter_low : (d : Due) → sign_word (number_sign d 0) ≤ 6684672
unfolding sign_word
letter_low Operand = omega arith
letter_low Colon = omega arith
letter_low Path = omega arith
letter_low Steps = omega arith
letter_low Listed = omega arith
letter_low After = omega arith

ended_word : (b : ℕ) → b * kind_unit ≡ sign_word (ended_by b)
unfolding sign_word
ended_word b = first (eqb b 76) refl where
  second : (t : Bool) → eqb b 80 ≡ t → b * kind_unit ≡ sign_word (if_so t top_sign (mark b))
  second true e = ap (λ (k : ℕ). k * kind_unit) (eqb-true b 80 e)
  second false e = refl

  first : (t : Bool) → eqb b 76 ≡ t → b * kind_unit ≡ sign_word (if_so t nil_sign (if_so (eqb b 80) top_sign (mark b)))
  first true e = ap (λ (k : ℕ). k * kind_unit) (eqb-true b 76 e)
  first false e = second (eqb b 80) refl

-- a byte ends a sign
pub clean_notes : (old next : Place) (d : Due) (b : ℕ) (w : List ℕ) (n v : ℕ) → next ≡ Clean d → n < length w → v ≡ b * kind_unit →
    SignsNoted (noted old next b) w n (set w n v) (n + 1)
clean_notes old next d b w n v e h q =
    subst (λ (x : Place). SignsNoted (noted old x b) w n (set w n v) (n + 1)) (sym e) (pushed_notes (ended_by b) w n v h (q ∙ ended_word b))

pub slot_low : (p : Place) (n : ℕ) → slot_of p n ≤ n
slot_low Start n = omega arith
slot_low (Clean d) n = omega arith
slot_low (Spaced d) n = omega arith
slot_low (Number d v) n = omega arith
slot_low (Within q) n = omega arith

pub last_of : (p : Place) (d : Due) (v n : ℕ) → p ≡ Number d v → NumberLast p n → 0 < n
last_of p d v n e l = subst (λ (x : Place). NumberLast x n) e l
