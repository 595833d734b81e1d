-- `answer_text::line::put_run` meets its contract: what is left of the run goes on as the whole does.
-- Assumes nothing.
use Rattle.answer_text.proofs.Answers.{next}
use Rattle.answer_text.proofs.line.put_run.Goals as goal

pub returns-in_err-end : goal.returns-in_err-end
returns-in_err-end c = λ old whole left g.
    rw c.from_residual.ensures (c.in_err-end.ensures old whole _
    (rw (next c.args.run.now c.loop-byte.byte-index c.loop-byte-test.true) at (c.loop-byte.invariant old whole left g)))
