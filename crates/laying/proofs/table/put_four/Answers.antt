-- `laying::table::put_four` meets its contract.
-- Assumes nothing.
use native.Mathlib.Omega.{arith}
use lib.ListN.{length-set}
use Rattle.laying.proofs.Columns.{four_put_at}
use Rattle.laying.proofs.table.put_four.Goals as goal

pub bounds-rows-i-2 : goal.bounds-rows-i-2
bounds-rows-i-2 c = simp length-set (omega arith)

pub bounds-rows-i-3 : goal.bounds-rows-i-3
bounds-rows-i-3 c = simp length-set (omega arith)

pub bounds-rows-i-4 : goal.bounds-rows-i-4
bounds-rows-i-4 c = simp length-set (omega arith)

pub returns : goal.returns
returns c =
    four_put_at c.args.rows.now c.args.row c.args.a c.args.b c.args.c c.args.d c.wide-i.result c.wide-i.ensures (omega arith)
