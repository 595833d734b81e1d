-- `marks::marking::drop` meets its contract. Assumes nothing.
use native.Mathlib.Omega.{arith}
use Rattle.marks.proofs.Marks.{dropped}
use Rattle.marks.proofs.marking.drop.Goals as goal

pub returns : goal.returns
returns c = dropped c.args.w.now c.args.x c.requires (omega arith)
