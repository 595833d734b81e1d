-- `suite_lines::lines::put_table` meets its contract. Assumes nothing.
use Rattle.suite_lines.proofs.Pieces.{goes, stops, ends, table_begins}
use Rattle.suite_lines.proofs.lines.put_table.Goals as goal

pub returns-in_err-two : goal.returns-in_err-two
returns-in_err-two c =
    let begun = table_begins c.args.out.now c.args.at c.args.table.now in
    rw c.from_residual.ensures (stops begun c.put_row.new.out c.in_err-two.ensures)

pub returns-in_err-three : goal.returns-in_err-three
returns-in_err-three c =
    let begun = table_begins c.args.out.now c.args.at c.args.table.now in
    let left₁ = goes begun c.in_ok-two.two c.put_row.new.out c.in_ok-two.ensures in
    rw c.from_residual-in_err-three.ensures (stops left₁ c.put_row-2.new.out c.in_err-three.ensures)

pub returns : goal.returns
returns c =
    let begun = table_begins c.args.out.now c.args.at c.args.table.now in
    let left₁ = goes begun c.in_ok-two.two c.put_row.new.out c.in_ok-two.ensures in
    let left₂ = goes left₁ c.in_ok-three.three c.put_row-2.new.out c.in_ok-three.ensures in
    ends left₂ c.put_row-3.new.out c.put_row-3.result c.put_row-3.ensures
