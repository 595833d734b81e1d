-- Descriptions in which each alternative has a number: the place where it stands. Marks are kept by that number.
-- Assumes nothing: these are definitions.
use Rattle.theory.specs.Net.{Graph}
pub use Rattle.modes_by_marks.specs.Placed.{place, stop, ◌also◌, no_more, option, own, inner, strip, strip_all, strip_any}

abbrev pub Placed : Type 0
Placed = Rattle.modes_by_marks.specs.Placed.Placed Graph

abbrev pub Places : Type 0
Places = Rattle.modes_by_marks.specs.Placed.Places Graph

abbrev pub Options : Type 0
Options = Rattle.modes_by_marks.specs.Placed.Options Graph
