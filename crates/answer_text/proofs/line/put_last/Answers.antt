-- `answer_text::line::put_last` meets its contract.
-- Assumes nothing.
use mathlib.Core.List.{append_assoc}
use Rattle.answer_text.proofs.line.put_last.Goals as goal

pub returns-in_err-end : goal.returns-in_err-end
returns-in_err-end c = λ old whole left g.
    rw c.from_residual.ensures (c.in_err-end.ensures old whole _ (rw append_assoc at g))

pub returns : goal.returns
returns c = λ old whole left g. c.put.ensures old whole left (c.in_ok-end.ensures old whole _ (rw append_assoc at g))
