-- `verdicts::table::raise` meets its contract. Assumes nothing.
use native.Mathlib.Omega.{arith}
use Rattle.verdicts.proofs.Laws.{cell_low, cell_raised}
use Rattle.verdicts.proofs.table.raise.Goals as goal

pub overflow_add-table : goal.overflow_add-table
overflow_add-table c =
    let low = cell_low c.args.table.now c.wide.result c.wide-2.result c.args.mode c.args.number c.wide.ensures c.wide-2.ensures
    c.requires.mode_bound.1.1 in
    record { fits = omega (arith, low) }

pub returns : goal.returns
returns c = cell_raised _ _ _ _ _ (omega arith) (omega arith)
