-- `area::log::put` meets its contract. Assumes nothing.
use native.Mathlib.Omega.{arith}
use Rattle.area.proofs.Undo.{put_law}
use Rattle.area.proofs.log.put.Goals as goal

pub returns : goal.returns
returns c =
    put_law c.args.n c.args.w.now c.args.i c.args.v c.requires.logged c.requires.i_bound.0 c.requires.i_bound.1.1 (omega arith)
    (omega arith)
