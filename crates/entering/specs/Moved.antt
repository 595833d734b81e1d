-- What of the area may have changed while alternatives are tried.
-- Assumes nothing: these are definitions.
use Rattle.std.specs.Prelude.{ℕ, ◌≤◌, ◌≡◌, List, length, get_or}
use Rattle.area.specs.Map.{RESULT}
use Rattle.classes.specs.Holds.{Since}

-- only what is pushed, what is remembered and marks changed, and the start is remembered
pub record Moved (k : ℕ) (w : List ℕ) (k' : ℕ) (w' : List ℕ) : Type 0 where
  pub len : length w' ≡ length w
  pub rest : (j : ℕ) → RESULT ≤ j → get_or w' j 0 ≡ get_or w j 0
  pub since : Since k w k' w'
