-- `suite_lines::lines::put_verdict` meets its contract. Assumes nothing.
use Rattle.verdicts.specs.declared.verdict.Verdict.TheVariants.{Refused, Other, NotRun}
use Rattle.suite_lines.proofs.Pieces.{good_said, said}
use Rattle.suite_lines.proofs.lines.put_verdict.Goals as goal

pub returns-in-Good : goal.returns-in-Good
returns-in-Good c =
    good_said c.args.test c.args.seen.number c.args.seen.readings c.args.out.now c.args.at c.args.what (cc)

pub returns-in-Refused : goal.returns-in-Refused
returns-in-Refused c =
    said c.args.test c.args.seen.number c.args.seen.readings c.args.out.now c.args.at Refused c.args.what c.put_refused.new.out c.put_refused.result (cc) c.put_refused.ensures

pub returns-in-Other : goal.returns-in-Other
returns-in-Other c =
    said c.args.test c.args.seen.number c.args.seen.readings c.args.out.now c.args.at Other c.args.what c.put_other.new.out c.put_other.result (cc) c.put_other.ensures

pub returns-in-NotRun : goal.returns-in-NotRun
returns-in-NotRun c =
    said c.args.test c.args.seen.number c.args.seen.readings c.args.out.now c.args.at NotRun c.args.what c.put_not_run.new.out c.put_not_run.result (cc) c.put_not_run.ensures
