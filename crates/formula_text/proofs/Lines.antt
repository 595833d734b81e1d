-- The first line of an answer to a formula.
-- Assumes nothing.
use Prim.Native.Nat.{ℕ}
use Rattle.std.specs.Prelude.{Ok, Err, Option}
use mathlib.Core.Path.{◌≡◌, refl, ap}
use mathlib.Core.List.{List, ◌++◌}
use Rattle.translate.specs.Row.{number_in}
use Rattle.translate.specs.Answer.{Answer}
use Rattle.translate.specs.declared.answer.Refusal.TheVariants.{BadText, TooDeep, Clash, TooLong, NoRoom, LongText}
use Rattle.answer_text.specs.Answer.{newline}
use Rattle.answer_text.specs.Going.{Appends}
use Rattle.answer_text.proofs.Goings.{named}
use Rattle.formula_text.specs.Printed.{after_number, told_line}

-- after 21, 22, 23 and 25 nothing is told
pub nothing_told : (r : Answer) → ((n : ℕ) → r ≡ Ok n → ⊥) → ((i : ℕ) → r ≡ Err (BadText i) → ⊥)
    → ((n : ℕ) → r ≡ Err (NoRoom n) → ⊥) → newline ≡ after_number r ++ newline
nothing_told (Ok n) d b m = absurd (d n refl)
nothing_told (Err (BadText i)) d b m = absurd (b i refl)
nothing_told (Err TooDeep) d b m = refl
nothing_told (Err Clash) d b m = refl
nothing_told (Err TooLong) d b m = refl
nothing_told (Err (NoRoom n)) d b m = absurd (m n refl)
nothing_told (Err LongText) d b m = refl

-- the first line by the number of an answer
pub line_told : (r : Answer) (n : ℕ) (dst end : List ℕ) (q : Option ℕ) → n ≡ number_in r → Appends (told_line n r) dst 0 end q →
    Appends (told_line (number_in r) r) dst 0 end q
line_told r n dst end q e f = named (told_line n r) (told_line (number_in r) r) dst 0 end q (ap (λ (k : ℕ). told_line k r) e) f
