-- `answer_text::line::put_after_space` meets its contract.
-- Assumes nothing.
use Rattle.answer_text.proofs.line.put_after_space.Goals as goal

pub returns-in_err-next : goal.returns-in_err-next
returns-in_err-next c = λ old whole left g. rw c.from_residual.ensures (c.in_err-next.ensures old whole _ g)

pub returns : goal.returns
returns c = λ old whole left g. c.put_decimal.ensures old whole left (rw c.from.ensures (c.in_ok-next.ensures old whole _ g))
