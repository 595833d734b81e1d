-- Descriptions that can be folded: where all that is certain agrees, at every depth, folding joins exactly that.
-- Assumes nothing.
use Rattle.theory.specs.Descr.{Desc}
use Rattle.theory.specs.Canonical.{Fine, Can}
use Rattle.engine.specs.Certain.{flat}
use Rattle.theory.proofs.Laws.{laws}

pub fine_flat : (d : Desc) → Can d → Fine (flat d)
fine_flat = Rattle.modes_by_marks.proofs.Sane.fine_flat laws
