-- Texts written by computation.
-- Assumes nothing.
use mathlib.Core.Path.{◌≡◌, refl}
use mathlib.Core.List.{List, [], ◌∷◌}
use Prim.Native.Nat.{ℕ}
use Rattle.answer_text.specs.Answer.{digits, decimal, after_spaces, spaced, labelled, first_line, second_line, answer_text}

-- the output of document 01's example
abbrev known_words : List ℕ
known_words = 2 ∷ 2 ∷ 1 ∷ 1 ∷ 2 ∷ 1 ∷ 0 ∷ 2 ∷ 2 ∷ 2 ∷ 1 ∷ 1 ∷ 1 ∷ 65546 ∷ 0 ∷ 2 ∷ 1 ∷ 1 ∷ 1 ∷ 65547 ∷ 0 ∷ 2 ∷ 2 ∷ 1 ∷ 2 ∷ 1 ∷ 65546 ∷ 0 ∷ 2
    ∷ 1 ∷ 2 ∷ 1 ∷ 65547 ∷ 0 ∷ []

-- `answer 0 words 34 readings 2`
pub known_first : first_line 0 34 2 ≡ 97 ∷ 110 ∷ 115 ∷ 119 ∷ 101 ∷ 114 ∷ 32 ∷ 48 ∷ 32 ∷ 119 ∷ 111 ∷ 114 ∷ 100 ∷ 115 ∷ 32 ∷ 51 ∷ 52 ∷ 32
    ∷ 114 ∷ 101 ∷ 97 ∷ 100 ∷ 105 ∷ 110 ∷ 103 ∷ 115 ∷ 32 ∷ 50 ∷ 10 ∷ []
unfolding first_line labelled decimal digits
known_first = refl

-- `2 2 1 1 2 1 0 2 2 2 1 1 1 65546 0 2 1 1 1 65547 0 2 2 1 2 1 65546 0 2 1 2 1 65547 0`
pub known_second : second_line 0 known_words ≡ 50 ∷ 32 ∷ 50 ∷ 32 ∷ 49 ∷ 32 ∷ 49 ∷ 32 ∷ 50 ∷ 32 ∷ 49 ∷ 32 ∷ 48 ∷ 32 ∷ 50 ∷ 32 ∷ 50 ∷ 32 ∷ 50
    ∷ 32 ∷ 49 ∷ 32 ∷ 49 ∷ 32 ∷ 49 ∷ 32 ∷ 54 ∷ 53 ∷ 53 ∷ 52 ∷ 54 ∷ 32 ∷ 48 ∷ 32 ∷ 50 ∷ 32 ∷ 49 ∷ 32 ∷ 49 ∷ 32 ∷ 49 ∷ 32 ∷ 54 ∷ 53 ∷ 53 ∷ 52
    ∷ 55 ∷ 32 ∷ 48 ∷ 32 ∷ 50 ∷ 32 ∷ 50 ∷ 32 ∷ 49 ∷ 32 ∷ 50 ∷ 32 ∷ 49 ∷ 32 ∷ 54 ∷ 53 ∷ 53 ∷ 52 ∷ 54 ∷ 32 ∷ 48 ∷ 32 ∷ 50 ∷ 32 ∷ 49 ∷ 32 ∷ 50
    ∷ 32 ∷ 49 ∷ 32 ∷ 54 ∷ 53 ∷ 53 ∷ 52 ∷ 55 ∷ 32 ∷ 48 ∷ 10 ∷ []
unfolding second_line spaced after_spaces decimal digits
known_second = refl

-- `answer 0 words 8 readings 0`, then `2 1 1 1 65546 0 4294967295 10`: words with zeros at their end, none at their start
pub two_lines : answer_text 0 8 0 (2 ∷ 1 ∷ 1 ∷ 1 ∷ 65546 ∷ 0 ∷ 4294967295 ∷ 10 ∷ []) ≡ 97 ∷ 110 ∷ 115 ∷ 119 ∷ 101 ∷ 114 ∷ 32 ∷ 48 ∷ 32 ∷ 119
    ∷ 111 ∷ 114 ∷ 100 ∷ 115 ∷ 32 ∷ 56 ∷ 32 ∷ 114 ∷ 101 ∷ 97 ∷ 100 ∷ 105 ∷ 110 ∷ 103 ∷ 115 ∷ 32 ∷ 48 ∷ 10 ∷ 50 ∷ 32 ∷ 49 ∷ 32 ∷ 49 ∷ 32 ∷ 49
    ∷ 32 ∷ 54 ∷ 53 ∷ 53 ∷ 52 ∷ 54 ∷ 32 ∷ 48 ∷ 32 ∷ 52 ∷ 50 ∷ 57 ∷ 52 ∷ 57 ∷ 54 ∷ 55 ∷ 50 ∷ 57 ∷ 53 ∷ 32 ∷ 49 ∷ 48 ∷ 10 ∷ []
unfolding answer_text second_line first_line labelled spaced after_spaces decimal digits
two_lines = refl

-- `answer 6 words 0 readings 0` and `answer 8 words 22 readings 0`: after a refusal no words, whatever is lent
pub refusals : (answer_text 6 0 0 (1 ∷ 0 ∷ 0 ∷ []) ≡ 97 ∷ 110 ∷ 115 ∷ 119 ∷ 101 ∷ 114 ∷ 32 ∷ 54 ∷ 32 ∷ 119 ∷ 111 ∷ 114 ∷ 100 ∷ 115 ∷ 32 ∷ 48
    ∷ 32 ∷ 114 ∷ 101 ∷ 97 ∷ 100 ∷ 105 ∷ 110 ∷ 103 ∷ 115 ∷ 32 ∷ 48 ∷ 10 ∷ [])
    × (answer_text 8 22 0 [] ≡ 97 ∷ 110 ∷ 115 ∷ 119 ∷ 101 ∷ 114 ∷ 32 ∷ 56 ∷ 32 ∷ 119 ∷ 111 ∷ 114 ∷ 100 ∷ 115 ∷ 32 ∷ 50 ∷ 50 ∷ 32 ∷ 114 ∷ 101
    ∷ 97 ∷ 100 ∷ 105 ∷ 110 ∷ 103 ∷ 115 ∷ 32 ∷ 48 ∷ 10 ∷ [])
unfolding answer_text second_line first_line labelled spaced after_spaces decimal digits
refusals = (refl, refl)
