-- `marks::marking::douse` meets its contract. Assumes nothing.
use native.Mathlib.Omega.{arith}
use Rattle.marks.proofs.Lighting.{douse_all}
use Rattle.marks.proofs.marking.douse.Goals as goal

pub returns : goal.returns
returns c = douse_all _ (omega arith) _ c.change_marks.ensures
