-- The two inputs placed side by side: without the numbers they are the joined description, and the numbers stay distinct.
-- Assumes nothing.
use mathlib.Core.Path.{◌≡◌}
use Rattle.theory.specs.Modes.{joined}
use Rattle.engine.specs.Placed.{Placed, strip}
use Rattle.engine.specs.Beside.{joined_placed}
use Rattle.modes_by_marks.specs.Names.{names, Apart, Distinct}
use Rattle.theory.specs.JoiningOne.{joining_one}
use Rattle.modes_by_marks.proofs.Beside.{strip_some, SomeDistinct}

pub joined_strip : (a b : Placed) → joined (strip a) (strip b) ≡ strip_some (joined_placed a b)
joined_strip = Rattle.modes_by_marks.proofs.Beside.joined_strip joining_one

pub joined_distinct : (a b : Placed) → Distinct a → Distinct b → Apart (names a) (names b) → SomeDistinct (joined_placed a b)
joined_distinct = Rattle.modes_by_marks.proofs.Beside.joined_distinct joining_one
