-- The two inputs placed side by side: mode 0 on placed descriptions.
-- Assumes nothing: these are definitions.
use Rattle.std.proofs.Math.Option.{Option}
use Rattle.engine.specs.Placed.{Placed}
use Rattle.theory.specs.JoiningOne.{joining_one}
pub use Rattle.modes_by_marks.specs.Beside.{◌next◌}

abbrev pub joined_placed : Placed → Placed → Option Placed
joined_placed = Rattle.modes_by_marks.specs.Beside.joined_placed joining_one
