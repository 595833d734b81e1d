-- What the answer of the reader says of the words.
-- Assumes nothing: these are definitions.
use Rattle.std.specs.Prelude.{ℕ, ◌≡◌, List, Bool, true}
use Rattle.theory.specs.LayoutOne.{Image}

-- "Anything else, words missing or words left over, is malformed.": accepted exactly when they are the image of a description
pub record Judged (ws : List ℕ) (r : Bool) : Type 0 where
  pub sound : r ≡ true → Image ws
  pub complete : Image ws → r ≡ true
