-- Descriptions that can be folded: all that is certain agrees, at every depth.
-- Assumes nothing: these are definitions.
use Rattle.theory.specs.Descr.{Desc, Disjs, Alts}
use Rattle.theory.specs.JoiningOne.{joining_one}

abbrev pub Sane : Desc → Type 0
Sane = Rattle.modes_by_marks.specs.Sane.Sane joining_one

abbrev pub SaneAll : Disjs → Type 0
SaneAll = Rattle.modes_by_marks.specs.Sane.SaneAll joining_one

abbrev pub SaneAny : Alts → Type 0
SaneAny = Rattle.modes_by_marks.specs.Sane.SaneAny joining_one
