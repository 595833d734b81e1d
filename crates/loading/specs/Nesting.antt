-- How deep the alternatives of a placed description nest.
-- Assumes nothing: these are definitions.
use Rattle.std.specs.Prelude.{ℕ, ◌-◌, ◌<◌}
use Rattle.engine.specs.Placed.{Placed, place, Places, stop, ◌also◌, Options, no_more, option}

-- "Alternatives may be nested at most 4 deep": here at most `left` deep
abbrev mutual
  pub Nests : Placed → ℕ → Type 0
  Nests (place g ds) left = NestsAll ds left

  pub NestsAll : Places → ℕ → Type 0
  NestsAll stop left = Unit {0}
  NestsAll (a also ds) left = (0 < left) × NestsAny a (left - 1) × NestsAll ds left

  pub NestsAny : Options → ℕ → Type 0
  NestsAny no_more left = Unit {0}
  NestsAny (option x d a) left = Nests d left × NestsAny a left
