-- `answer_text::line::put_each_after_space` meets its contract: what is left of the words goes on as the whole does.
-- Assumes nothing.
use native.Mathlib.Omega.{arith}
use mathlib.Core.List.{append_assoc}
use Rattle.answer_text.proofs.Answers.{spaces-next, spaces_end}
use Rattle.answer_text.proofs.line.put_each_after_space.Goals as goal

pub returns-in_err-end : goal.returns-in_err-end
returns-in_err-end c = λ old whole left g.
    rw c.from_residual.ensures (c.in_err-end.ensures old whole _
    (rw (spaces-next c.args.words.now c.loop-word.word-index c.loop-word-test.true, append_assoc) at (c.loop-word.invariant old whole left g)))

pub loop-word-preserved : goal.loop-word-preserved
loop-word-preserved c = λ old whole left g.
    c.in_ok-end.ensures old whole _
    (rw (spaces-next c.args.words.now c.loop-word.word-index c.loop-word-test.true, append_assoc) at (c.loop-word.invariant old whole left g))

pub returns : goal.returns
returns c = λ old whole left g.
    rw (spaces_end c.args.words.now c.loop-word.word-index (omega arith)) at (c.loop-word.invariant old whole left g)
