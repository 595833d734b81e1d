-- What `meet` prints, as bytes: "It prints `answer` number `words` length `readings` count and, after 0 only, a second line of result
-- words parted by single spaces".
-- Assumes nothing: these are definitions.
use Rattle.std.specs.Prelude.{Option, Some, None}
use Rattle.std.specs.Prelude.{ℕ, zero, suc, ◌+◌, ◌/◌, ◌%◌, ◌≤◌, ◌<◌, ◌≡◌, true, false, List, [], ◌∷◌, ◌++◌, length, drop, eqb, ltb}

-- the decimal digits of a number, where it has at most so many
unfoldable pub digits : ℕ → ℕ → List ℕ
digits zero v = []
digits (suc k) v = elim (ltb v 10) [ true ↦ (48 + v) ∷ [] | false ↦ digits k (v / 10) ++ ((48 + v % 10) ∷ []) ]

-- a number without leading zeros: no number v has more than v + 1 digits
unfoldable pub decimal : ℕ → List ℕ
decimal v = digits (suc v) v

-- each word after a space
unfoldable pub after_spaces : List ℕ → List ℕ
after_spaces [] = []
after_spaces (w ∷ ws) = 32 ∷ (decimal w ++ after_spaces ws)

-- "words parted by single spaces"
unfoldable pub spaced : List ℕ → List ℕ
spaced [] = []
spaced (w ∷ ws) = decimal w ++ after_spaces ws

-- "Each line ends with a newline"
abbrev pub newline : List ℕ
newline = 10 ∷ []

-- `answer `, ` words `, ` readings `
abbrev pub answer_label : List ℕ
answer_label = 97 ∷ 110 ∷ 115 ∷ 119 ∷ 101 ∷ 114 ∷ 32 ∷ []

abbrev pub words_label : List ℕ
words_label = 32 ∷ 119 ∷ 111 ∷ 114 ∷ 100 ∷ 115 ∷ 32 ∷ []

abbrev pub readings_label : List ℕ
readings_label = 32 ∷ 114 ∷ 101 ∷ 97 ∷ 100 ∷ 105 ∷ 110 ∷ 103 ∷ 115 ∷ 32 ∷ []

unfoldable pub labelled : List ℕ → ℕ → List ℕ
labelled label v = label ++ decimal v

-- "`answer` number `words` length `readings` count"
unfoldable pub first_line : ℕ → ℕ → ℕ → List ℕ
first_line number length readings =
    labelled answer_label number ++ (labelled words_label length ++ (labelled readings_label readings ++ newline))

-- "after 0 only, a second line of result words"
unfoldable pub second_line : ℕ → List ℕ → List ℕ
second_line number words = elim (eqb number 0) [ true ↦ spaced words ++ newline | false ↦ [] ]

unfoldable pub answer_text : ℕ → ℕ → ℕ → List ℕ → List ℕ
answer_text number length readings words = first_line number length readings ++ second_line number words

-- `bad input`, and a newline
abbrev pub bad_text : List ℕ
bad_text = 98 ∷ 97 ∷ 100 ∷ 32 ∷ 105 ∷ 110 ∷ 112 ∷ 117 ∷ 116 ∷ 10 ∷ []

-- the text stands at the start of dst, and what stood after it stays; or the text is longer than dst, and what dst then holds is not said
abbrev pub Wrote : List ℕ → List ℕ → List ℕ → Option ℕ → Type 0
Wrote text dst dst' (Some n) = (n ≡ length text) × (n ≤ length dst) × (dst' ≡ text ++ drop n dst)
Wrote text dst dst' None = length dst < length text
