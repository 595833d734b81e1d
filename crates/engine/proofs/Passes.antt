-- The passes come to the greatest stable part: each keeps it, and one that drops nothing has reached it.
-- Assumes nothing.
use mathlib.Core.Bool.{Bool}
use Rattle.theory.specs.Descr.{agree}
use Rattle.theory.specs.Canonical.{Ctx}
use Rattle.theory.specs.JoiningOne.{joining_one}

abbrev pub Agreeing : (c : Ctx) → Bool → Type 0
Agreeing = Rattle.modes_by_marks.proofs.Passes.Agreeing joining_one

pub agreeing_view : (c : Ctx) → Agreeing c (agree c)
agreeing_view = Rattle.modes_by_marks.proofs.Passes.agreeing_view joining_one
