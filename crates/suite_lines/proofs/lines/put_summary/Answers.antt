-- `suite_lines::lines::put_summary` meets its contract. Assumes nothing.
use Rattle.suite_lines.proofs.Pieces.{goes, stops, ends, summary_begins}
use Rattle.suite_lines.proofs.lines.put_summary.Goals as goal

pub returns-in_err-end : goal.returns-in_err-end
returns-in_err-end c =
    let begun = summary_begins c.args.out.now c.args.at c.args.table.now c.args.totals in
    rw c.from_residual.ensures (stops begun c.put_table.new.out c.in_err-end.ensures)

pub returns : goal.returns
returns c =
    let begun = summary_begins c.args.out.now c.args.at c.args.table.now c.args.totals in
    let left₁ = goes begun c.in_ok-end.end c.put_table.new.out c.in_ok-end.ensures in
    ends left₁ c.put_totals.new.out c.put_totals.result c.put_totals.ensures
