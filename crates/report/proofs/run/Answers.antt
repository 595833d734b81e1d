-- What may be said, where there is room, is what came of the text alone.
use Rattle.std.proofs.Common.{◌≤◌, List, ℕ, length, take}
use Rattle.suite_text.specs.Report.{suite_printed}
use Rattle.programs.proofs.Printing.{one_text_that_fits}
use Rattle.report.proofs.run.Goals as goal

pub returns : goal.returns
returns g c =
    let text : List ℕ → List ℕ = λ all. suite_printed (take (length c.args.text.now) all) in
    one_text_that_fits _ _ _ _ text (λ all. length (text all) ≤ length c.args.out.now) c.run.ensures
