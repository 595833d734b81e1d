-- Texts of answers to formulas by computation.
-- Assumes nothing.
use Rattle.std.specs.Prelude.{Ok, Err}
use mathlib.Core.Path.{◌≡◌, refl}
use mathlib.Core.List.{[], ◌∷◌}
use Rattle.translate.specs.declared.answer.Refusal.TheVariants.{BadText, Clash, NoRoom, LongText}
use Rattle.answer_text.specs.Answer.{digits, decimal, after_spaces, spaced, labelled, second_line}
use Rattle.formula_text.specs.Printed.{told_line, formula_text}

-- `answer 0 words 3`, then `1 65546 0`
pub two_lines : formula_text (Ok 3) (1 ∷ 65546 ∷ 0 ∷ []) ≡ 97 ∷ 110 ∷ 115 ∷ 119 ∷ 101 ∷ 114 ∷ 32 ∷ 48 ∷ 32 ∷ 119 ∷ 111 ∷ 114 ∷ 100 ∷ 115
    ∷ 32 ∷ 51 ∷ 10 ∷ 49 ∷ 32 ∷ 54 ∷ 53 ∷ 53 ∷ 52 ∷ 54 ∷ 32 ∷ 48 ∷ 10 ∷ []
unfolding formula_text told_line second_line labelled spaced after_spaces decimal digits
two_lines = refl

-- `answer 20 byte 4096`, and no words whatever is lent
pub bad_byte : formula_text (Err (BadText 4096)) (1 ∷ 0 ∷ 0 ∷ []) ≡ 97 ∷ 110 ∷ 115 ∷ 119 ∷ 101 ∷ 114 ∷ 32 ∷ 50 ∷ 48 ∷ 32 ∷ 98 ∷ 121 ∷ 116 ∷ 101
    ∷ 32 ∷ 52 ∷ 48 ∷ 57 ∷ 54 ∷ 10 ∷ []
unfolding formula_text told_line second_line labelled spaced after_spaces decimal digits
bad_byte = refl

-- `answer 22`, `answer 25`, and `answer 24 words 19`
pub refusals : (formula_text (Err Clash) [] ≡ 97 ∷ 110 ∷ 115 ∷ 119 ∷ 101 ∷ 114 ∷ 32 ∷ 50 ∷ 50 ∷ 10 ∷ [])
    × (formula_text (Err LongText) [] ≡ 97 ∷ 110 ∷ 115 ∷ 119 ∷ 101 ∷ 114 ∷ 32 ∷ 50 ∷ 53 ∷ 10 ∷ [])
    × (formula_text (Err (NoRoom 19)) [] ≡ 97 ∷ 110 ∷ 115 ∷ 119 ∷ 101 ∷ 114 ∷ 32 ∷ 50 ∷ 52 ∷ 32 ∷ 119 ∷ 111 ∷ 114 ∷ 100 ∷ 115 ∷ 32 ∷ 49 ∷ 57
    ∷ 10 ∷ [])
unfolding formula_text told_line second_line labelled spaced after_spaces decimal digits
refusals = (refl, refl, refl)
