-- What comes in to unification, but for the areas, which are lent.
-- Assumes nothing: these are definitions.
use Rattle.std.specs.Prelude.{List, ℕ}

-- "Unification takes a mode, two descriptions, …"
pub record Call : Type 0 where
  pub mode : ℕ
  pub first : List ℕ
  pub second : List ℕ
