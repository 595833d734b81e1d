-- What is left, as a writer puts it out: all that is certain is joined at once, and the disjunctions of an alternative that stands
-- alone come in its place.
-- Assumes nothing: these are definitions.
use Rattle.theory.specs.Descr.{Desc, Disjs, Alts}
use Rattle.theory.specs.JoiningOne.{joining_one}
pub use Rattle.modes_by_marks.specs.Shown.{or_else}

abbrev pub shown : Desc → Desc
shown = Rattle.modes_by_marks.specs.Shown.shown joining_one

abbrev pub shown_all : Disjs → Disjs
shown_all = Rattle.modes_by_marks.specs.Shown.shown_all joining_one

abbrev pub shown_then : Alts → Disjs → Disjs
shown_then = Rattle.modes_by_marks.specs.Shown.shown_then joining_one

abbrev pub shown_in : Desc → Disjs
shown_in = Rattle.modes_by_marks.specs.Shown.shown_in joining_one

abbrev pub shown_any : Alts → Alts
shown_any = Rattle.modes_by_marks.specs.Shown.shown_any joining_one
