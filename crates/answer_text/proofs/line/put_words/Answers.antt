-- `answer_text::line::put_words` meets its contract.
-- Assumes nothing.
use native.Mathlib.Omega.{arith}
use mathlib.Core.List.{◌++◌, append_assoc}
use lib.ListN.{drop}
use Rattle.answer_text.specs.Answer.{after_spaces}
use Rattle.answer_text.proofs.Answers.{spaced-some, spaced-none}
use Rattle.answer_text.proofs.line.put_words.Goals as goal

pub returns-in_default : goal.returns-in_default
returns-in_default c = λ old whole left g.
    rw (← spaced-none c.args.words.now (omega (arith, c.in_default.ensures.item))) at g

pub returns-in_err-next : goal.returns-in_err-next
returns-in_err-next c = λ old whole left g.
    let (some, first) = c.in-Some.ensures.item.3 in
    rw c.from_residual.ensures (c.in_err-next.ensures old whole (after_spaces (drop 1 c.args.words.now) ++ left)
    (rw c.from.ensures (rw (← spaced-some c.args.words.now some, ← first 0, append_assoc) at g)))

pub returns : goal.returns
returns c = λ old whole left g.
    let (some, first) = c.in-Some.ensures.item.3 in
    c.put_after_spaces.ensures old whole left (c.in_ok-next.ensures old whole (after_spaces (drop 1 c.args.words.now) ++ left)
    (rw c.from.ensures (rw (← spaced-some c.args.words.now some, ← first 0, append_assoc) at g)))
