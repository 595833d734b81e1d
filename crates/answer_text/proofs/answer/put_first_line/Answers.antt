-- `answer_text::answer::put_first_line` meets its contract.
-- Assumes nothing.
use mathlib.Core.List.{◌++◌, append_assoc}
use Rattle.answer_text.specs.Answer.{newline, words_label, readings_label, labelled, first_line}
use Rattle.answer_text.proofs.answer.put_first_line.Goals as goal

pub returns-in_err-at : goal.returns-in_err-at
unfolding first_line
returns-in_err-at c = λ old whole left g.
    rw c.from_residual.ensures (c.in_err-at.ensures old whole
    (labelled words_label c.args.length ++ (labelled readings_label c.args.readings ++ (newline ++ left)))
    (rw c.from.ensures (simp append_assoc at g)))

pub returns-in_err-next : goal.returns-in_err-next
unfolding first_line
returns-in_err-next c = λ old whole left g.
    rw c.from_residual-in_err-next.ensures (c.in_err-next.ensures old whole (labelled readings_label c.args.readings ++ (newline ++ left))
    (c.in_ok-at.ensures old whole
    (labelled words_label c.args.length ++ (labelled readings_label c.args.readings ++ (newline ++ left)))
    (rw c.from.ensures (simp append_assoc at g))))

pub returns : goal.returns
unfolding first_line
returns c = λ old whole left g.
    c.put_last.ensures old whole left (rw (c.from-2.ensures, append_assoc) (c.in_ok-next.ensures old whole _
    (c.in_ok-at.ensures old whole
    (labelled words_label c.args.length ++ (labelled readings_label c.args.readings ++ (newline ++ left)))
    (rw c.from.ensures (simp append_assoc at g)))))
