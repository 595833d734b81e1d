-- The quick step on marks does what the quick step on descriptions does.
-- Assumes nothing.
use Rattle.theory.specs.Canonical.{Ctx}
use Rattle.engine.specs.Placed.{Options}
use Rattle.engine.specs.Marks.{Marking}
use Rattle.engine.specs.Quickly.{sift_at}
use Rattle.modes_by_marks.specs.Names.{DistinctAny}
use Rattle.theory.specs.JoiningOne.{joining_one}

abbrev pub SiftedAt : Ctx → Marking → Options → Marking → Type 0
SiftedAt = Rattle.modes_by_marks.proofs.QuickStep.SiftedAt joining_one

pub sift_at_ok : (a : Options) → DistinctAny a → (S : Ctx) (m : Marking) → SiftedAt S m a (sift_at S m a)
sift_at_ok = Rattle.modes_by_marks.proofs.QuickStep.sift_at_ok joining_one
