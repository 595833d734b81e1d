-- `marks::marking::light` meets its contract. Assumes nothing.
use native.Mathlib.Omega.{arith}
use Rattle.marks.proofs.Marks.{lighted}
use Rattle.marks.proofs.marking.light.Goals as goal

pub returns : goal.returns
returns c = lighted c.args.w.now c.args.x c.requires (omega arith)
