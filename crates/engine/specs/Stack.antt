-- Two stacks of graphs that join alike, whatever is pushed on them.
-- Assumes nothing: these are definitions.
use Rattle.theory.specs.Net.{Canonical}
use Rattle.theory.specs.Canonical.{Ctx}
use Rattle.theory.specs.JoiningOne.{joining_one}

abbrev pub Equivalent : (S T : Ctx) → Type 0
Equivalent = Rattle.modes_by_marks.specs.Stack.Equivalent joining_one Canonical
