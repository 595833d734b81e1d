-- Folding what is left gives the form that a writer puts out.
-- Assumes nothing.
use mathlib.Core.Path.{◌≡◌}
use mathlib.Core.Option.{Option}
use Rattle.theory.specs.Descr.{Desc}
use Rattle.theory.specs.Modes.{fold}
use Rattle.theory.specs.Canonical.{Can}
use Rattle.engine.specs.Shown.{shown}
use Rattle.engine.specs.Sane.{Sane}
use Rattle.theory.proofs.Laws.{laws}
use Rattle.theory.specs.JoiningOne.{joining_one}

abbrev pub shown_some : Option Desc → Option Desc
shown_some = Rattle.modes_by_marks.proofs.Shown.shown_some joining_one

pub shown_ok : (d : Desc) → Can d → Sane d → fold d ≡ shown d
shown_ok = Rattle.modes_by_marks.proofs.Shown.shown_ok laws
