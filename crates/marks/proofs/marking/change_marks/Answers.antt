-- `marks::marking::change_marks` meets its contract: each mark is changed in its turn. Assumes nothing.
use native.Mathlib.Omega.{arith}
use Rattle.marks.proofs.Lighting.{changed_all}
use Rattle.marks.proofs.marking.change_marks.Goals as goal

pub returns : goal.returns
returns g c = changed_all _ _ _ _ _ (omega arith) (omega arith) c.loop-mark.auto.mark-items _ c.loop-mark-test.false c.loop-mark.invariant.0
