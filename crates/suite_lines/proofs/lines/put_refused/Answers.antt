-- `suite_lines::lines::put_refused` meets its contract. Assumes nothing.
use Rattle.suite_lines.proofs.Pieces.{goes, stops, ends, refused_begins}
use Rattle.suite_lines.proofs.lines.put_refused.Goals as goal

pub returns-in_err-end : goal.returns-in_err-end
returns-in_err-end c =
    let begun = refused_begins c.args.test c.args.seen.number c.args.seen.readings c.args.out.now c.args.at in
    rw c.from_residual.ensures (stops begun c.put_labelled.new.dst c.in_err-end.ensures)

pub returns : goal.returns
returns c =
    let begun = refused_begins c.args.test c.args.seen.number c.args.seen.readings c.args.out.now c.args.at in
    let left₁ = goes begun c.in_ok-end.end c.put_labelled.new.dst c.in_ok-end.ensures in
    ends left₁ c.put_run.new.dst c.put_run.result c.put_run.ensures
