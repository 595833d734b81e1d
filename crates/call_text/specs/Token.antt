-- A number at the start of a text: "decimal digits parted by one or more spaces or newlines, which may also stand at both ends,
-- leading zeros allowed".
-- Assumes nothing: these are definitions.
use Rattle.std.specs.Prelude.{ℕ, ◌+◌, ◌*◌, ◌-◌, Bool, true, false, List, [], ◌∷◌, length, eqb, ltb}
use Rattle.call_text.specs.declared.number.Token.{Token}
use Rattle.call_text.specs.declared.number.Token.TheVariants.{Is, Over, Bad}

-- "spaces or newlines"
unfoldable pub space_or_newline : ℕ → Bool
space_or_newline c = elim (eqb c 32) [ true ↦ true | false ↦ eqb c 10 ]

-- "decimal digits"
unfoldable pub digit : ℕ → Bool
digit c = elim (ltb c 48) [ true ↦ false | false ↦ ltb c 58 ]

-- "a number over 4,294,967,295"
abbrev pub largest : ℕ
largest = 4294967295

-- what stands at the start: a number and the text after it, no number any more, or anything else
pub data Start : Type 0 where
  is : ℕ → List ℕ → Start
  over : Start
  bad : Start

-- the rest of a number whose value so far is v
unfoldable pub more : ℕ → List ℕ → Start
more v [] = is v []
more v (c ∷ cs) = elim (digit c) [
  | true ↦ elim (ltb largest (v * 10 + (c - 48))) [ true ↦ bad | false ↦ more (v * 10 + (c - 48)) cs ]
  | false ↦ elim (space_or_newline c) [ true ↦ is v (c ∷ cs) | false ↦ bad ]
]

unfoldable pub token : List ℕ → Start
token [] = over
token (c ∷ cs) = elim (space_or_newline c) [ true ↦ token cs | false ↦ elim (digit c) [ true ↦ more 0 (c ∷ cs) | false ↦ bad ] ]

-- the answer for a start: a number goes with the position where the text after it begins
abbrev pub placed : List ℕ → Start → Token
placed text (is v rest) = Is v (length text - length rest)
placed text over = Over
placed text bad = Bad
