-- What is left of a disjunction: none of its alternatives, one, or several.
-- Assumes nothing: these are definitions.
use Rattle.std.specs.Prelude.{ℕ, zero, suc}

-- "A disjunction with none left fails the description. One with exactly one left is folded"; one with several stays
pub data Remnant : Type 0 where
  nothing : Remnant
  alone : Remnant
  several : Remnant

-- by the number of its alternatives
abbrev pub remnant : ℕ → Remnant
remnant zero = nothing
remnant (suc zero) = alone
remnant (suc (suc n)) = several
