-- `answer_text::line::put_words_line` meets its contract.
-- Assumes nothing.
use mathlib.Core.List.{append_assoc}
use Rattle.answer_text.proofs.line.put_words_line.Goals as goal

pub returns-in_err-next : goal.returns-in_err-next
returns-in_err-next c = λ old whole left g.
    rw c.from_residual.ensures (c.in_err-next.ensures old whole _ (rw append_assoc at g))

pub returns : goal.returns
returns c = λ old whole left g. c.put.ensures old whole left (c.in_ok-next.ensures old whole _ (rw append_assoc at g))
