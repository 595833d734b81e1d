-- What is said where there is room; no room, and anything may be.
use Rattle.std.proofs.Common.{◌≡◌, ◌≤◌, length, arith, refl}
use Rattle.suite_text.specs.Report.{suite_printed}
use Rattle.programs.proofs.Written.{answered_exactly}
use Rattle.report.proofs.ReportExact.answer.Goals as goal

pub returns : goal.returns
returns c =
    let text = suite_printed c.args.text.now in
    (answered_exactly (λ said. length text ≤ length c.args.out.now → said ≡ text) _ _ _ _ c.report.ensures
    (λ _. refl) (λ long any room. absurd (omega (arith, long, room))))
