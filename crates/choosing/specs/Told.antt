-- Whether an alternative stands beside another, as code tells it.
-- Assumes nothing: these are definitions.
use Rattle.std.specs.Prelude.{Bool, true}
use Rattle.marks.specs.declared.tally.Remnant.{Remnant}
use Rattle.marks.specs.declared.tally.Remnant.TheVariants.{Nothing, One, Several}

-- by what is left of its disjunction
abbrev pub told_beside : Remnant → Bool → Bool
told_beside Nothing new = new
told_beside (One first) new = new
told_beside (Several count) new = true
