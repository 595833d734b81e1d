-- `laying::table::put_row` meets its contract.
-- Assumes nothing.
use native.Mathlib.Omega.{arith}
use lib.ListN.{length-set}
use Rattle.laying.proofs.Columns.{row_put_at}
use Rattle.laying.proofs.table.put_row.Goals as goal

pub bounds-rows-i-2 : goal.bounds-rows-i-2
bounds-rows-i-2 c = simp length-set (omega arith)

pub returns : goal.returns
returns c =
    row_put_at c.args.rows.now c.args.row c.args.x c.args.home c.wide-i.result c.wide-i.ensures (omega arith)
