-- `marks::marking::keep_lit` meets its contract. Assumes nothing.
use native.Mathlib.Omega.{arith}
use Rattle.marks.proofs.Lighting.{light_all}
use Rattle.marks.proofs.marking.keep_lit.Goals as goal

pub returns : goal.returns
returns c = light_all _ _ c.args.n.in_area (omega arith) _ c.change_marks.ensures
