-- The text of a suite: what its numbers see of it, and what its names say. "a name may stand after `#` to the end of a line"
-- Assumes nothing: these are definitions.
use Rattle.std.specs.Prelude.{◌≡◌, Bool, true, false, not, List, [], ◌∷◌, ℕ, ◌-◌, ◌≤◌, length, take, drop, eqb, ltb}

-- whether a byte stands in a name: the byte before it does, or is none, and so it goes on
unfoldable pub next_named : Bool → ℕ → Bool
next_named true c = not (eqb c 10)
next_named false c = eqb c 35

-- a byte of a name, as numbers see it: a space. One that no terminal should be given, under 32 or 127, stays, and is no number
unfoldable pub name_byte : ℕ → ℕ
name_byte c = elim (ltb c 32) [ true ↦ c | false ↦ elim (eqb c 127) [ true ↦ c | false ↦ 32 ] ]

unfoldable pub blank_byte : Bool → ℕ → ℕ
blank_byte true c = name_byte c
blank_byte false c = elim (eqb c 35) [ true ↦ 32 | false ↦ c ]

-- the text without its names, byte by byte
unfoldable pub blanked : Bool → List ℕ → List ℕ
blanked named [] = []
blanked named (c ∷ cs) = blank_byte named c ∷ blanked (next_named named c) cs

-- ---- names
-- what stands after the first `#`
unfoldable pub from_hash : List ℕ → List ℕ
from_hash [] = []
from_hash (c ∷ cs) = elim (eqb c 35) [ true ↦ cs | false ↦ from_hash cs ]

-- without the spaces at the start
unfoldable pub spaces_off : List ℕ → List ℕ
spaces_off [] = []
spaces_off (c ∷ cs) = elim (eqb c 32) [ true ↦ spaces_off cs | false ↦ c ∷ cs ]

-- "to the end of a line"
unfoldable pub to_newline : List ℕ → List ℕ
to_newline [] = []
to_newline (c ∷ cs) = elim (eqb c 10) [ true ↦ [] | false ↦ c ∷ to_newline cs ]

-- the name in a run of bytes; none is empty
unfoldable pub name_in : List ℕ → List ℕ
name_in run = to_newline (spaces_off (from_hash run))

-- a name stands in a run of bytes from here to there
pub record FindsName (run name : List ℕ) (from to : ℕ) : Type 0 where
  pub order : from ≤ to
  pub inside : to ≤ length run
  pub is : take (to - from) (drop from run) ≡ name
