-- The search with no function for an argument: what comes after is an agenda, the disjunctions still to go through. Then the same by
-- marks, over the description as it stands.
-- Assumes nothing: these are definitions.
use Rattle.std.specs.Prelude.{List}
use Rattle.theory.specs.Net.{Graph}
use Rattle.engine.specs.Placed.{Placed, Places, Options}
use Rattle.engine.specs.Marks.{Marking}
use Rattle.engine.specs.Search.{Found}
use Rattle.theory.specs.JoiningOne.{joining_one}

abbrev pub resume : List Places → List Graph → Found
resume = Rattle.modes_by_marks.specs.Agenda.resume joining_one

abbrev pub resume_at : Marking → List Places → List Graph → Found
resume_at = Rattle.modes_by_marks.specs.Agenda.resume_at joining_one

abbrev pub dive_at : Marking → List Graph → Placed → List Places → Found
dive_at = Rattle.modes_by_marks.specs.Agenda.dive_at joining_one

abbrev pub each_at : Marking → List Graph → Options → List Places → Found
each_at = Rattle.modes_by_marks.specs.Agenda.each_at joining_one
