-- `marks::marking::clear_marks` meets its contract. Assumes nothing.
use native.Mathlib.Omega.{arith}
use Rattle.marks.proofs.Lighting.{clear_all}
use Rattle.marks.proofs.marking.clear_marks.Goals as goal

pub returns : goal.returns
returns c = clear_all _ (omega arith) _ c.clear.ensures
