-- There is always room.
use Rattle.std.proofs.Common.{arith}
use Rattle.call_text.specs.Call.{heard}
use Rattle.explaining.specs.Explained.{ExplainedText}
use Rattle.programs.proofs.Written.{answered_exactly}
use Rattle.explain.proofs.ExplainExact.answer.Goals as goal

pub returns : goal.returns
returns c =
    let told = c.explain_text.ensures in
    (answered_exactly (ExplainedText (heard c.args.text.now)) _ _ _ _ told.wrote told.explained
    (λ long any. absurd (omega (arith, told.small, c.requires, long))))
