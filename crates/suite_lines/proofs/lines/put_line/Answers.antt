-- `suite_lines::lines::put_line` meets its contract. Assumes nothing.
use Rattle.suite_reading.specs.Text.{name_in}
use Rattle.suite_lines.proofs.Pieces.{goes, stops, ends, good_line, line_begins}
use Rattle.suite_lines.proofs.lines.put_line.Goals as goal

pub returns-in_err-end : goal.returns-in_err-end
returns-in_err-end c =
    let begun = line_begins c.args.test c.args.seen.number c.args.seen.readings c.args.out.now c.args.at c.args.i (name_in c.args.run.now) c.args.what
    c.in_default.not-Good in
    rw c.from_residual.ensures (stops begun c.put_name.new.out c.in_err-end.ensures)

pub returns : goal.returns
returns c =
    let begun = line_begins c.args.test c.args.seen.number c.args.seen.readings c.args.out.now c.args.at c.args.i (name_in c.args.run.now) c.args.what
    c.in_default.not-Good in
    let left₁ = goes begun c.in_ok-end.end c.put_name.new.out c.in_ok-end.ensures in
    ends left₁ c.put_verdict.new.out c.put_verdict.result c.put_verdict.ensures

pub returns-in-Good : goal.returns-in-Good
returns-in-Good c =
    good_line c.args.test c.args.seen.number c.args.seen.readings c.args.out.now c.args.at c.args.i (name_in c.args.run.now) c.args.what (cc)
