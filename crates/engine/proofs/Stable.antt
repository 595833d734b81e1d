-- Stable descriptions: what is left of a description when alternatives are dropped, and when nothing more has to be.
-- Assumes nothing.
use Rattle.theory.specs.Descr.{Disjs}
use Rattle.theory.proofs.Instance.{AllCanonical}
use Rattle.theory.specs.Canonical.{CanAll}
use Rattle.engine.specs.Certain.{sure}
use Rattle.theory.proofs.Laws.{laws}

pub sure_can : (ds : Disjs) → CanAll ds → AllCanonical (sure ds)
sure_can = Rattle.modes_by_marks.proofs.Stable.sure_can laws
