-- `suite::counts::raised` meets its contract. Assumes nothing.
use native.Mathlib.Omega.{arith}
use mathlib.Core.List.{[]}
use lib.ListN.{get_or}
use Rattle.suite.proofs.Laws.{cell_le, row_le, raised_is}
use Rattle.suite.proofs.counts.raised.Goals as goal

pub overflow_add-counts : goal.overflow_add-counts
overflow_add-counts c =
    let a = cell_le (get_or c.args.counts c.wide-mode.result []) c.wide-number.result in
    let b = row_le c.args.counts c.wide-mode.result in
    record { fits = omega (arith, a, b, c.requires) }

pub returns : goal.returns
returns c = raised_is _ _ _ _ _ (omega arith) (omega arith)
