-- Texts read by computation.
-- Assumes nothing.
use mathlib.Core.Path.{◌≡◌, refl}
use mathlib.Core.Option.{none, some}
use mathlib.Core.List.{[], ◌∷◌}
use Rattle.call_text.specs.Token.{space_or_newline, digit, more, token, placed}
use Rattle.call_text.specs.declared.number.Token.TheVariants.{Is}
use Rattle.call_text.specs.Call.{words_in, counted, done, inputs, typed, heard}

-- `07`: the number ends with the text, and no text is left after position 2
pub last_number : placed (48 ∷ 55 ∷ []) (token (48 ∷ 55 ∷ [])) ≡ Is 7 2
unfolding token more digit space_or_newline
last_number = refl

-- `3 1 0 0`: mode 3, one word and none; the form is judged before the mode
pub mode_three : heard (51 ∷ 32 ∷ 49 ∷ 32 ∷ 48 ∷ 32 ∷ 48 ∷ []) ≡ some (record { mode = 3; first = 0 ∷ []; second = [] })
unfolding heard typed inputs done counted words_in token more digit space_or_newline
mode_three = refl

-- ` 00 0<newline>0`: blanks at the start, leading zeros, two inputs of no words
pub leading_zeros : heard (32 ∷ 48 ∷ 48 ∷ 32 ∷ 48 ∷ 10 ∷ 48 ∷ []) ≡ some (record { mode = 0; first = []; second = [] })
unfolding heard typed inputs done counted words_in token more digit space_or_newline
leading_zeros = refl

-- `0<tab>0 0`, `0 0`, `0 0 0 0`: another character, a missing and a surplus number
pub bad_inputs : (heard (48 ∷ 9 ∷ 48 ∷ 32 ∷ 48 ∷ []) ≡ none) × (heard (48 ∷ 32 ∷ 48 ∷ []) ≡ none)
    × (heard (48 ∷ 32 ∷ 48 ∷ 32 ∷ 48 ∷ 32 ∷ 48 ∷ []) ≡ none)
unfolding heard typed inputs done counted words_in token more digit space_or_newline
bad_inputs = (refl, refl, refl)

-- `4294967296 0 0`: a number too large
pub too_large : heard (52 ∷ 50 ∷ 57 ∷ 52 ∷ 57 ∷ 54 ∷ 55 ∷ 50 ∷ 57 ∷ 54 ∷ 32 ∷ 48 ∷ 32 ∷ 48 ∷ []) ≡ none
unfolding heard typed inputs done counted words_in token more digit space_or_newline
too_large = refl
