-- `library_text::lines::put_extent_line` meets its contract.
-- Assumes nothing.
use mathlib.Core.List.{◌++◌, append_assoc}
use Rattle.answer_text.specs.Answer.{newline, labelled}
use Rattle.library_text.specs.Lines.{extent_line}
use Rattle.library_text.proofs.lines.put_extent_line.Goals as goal

pub returns-in_err-at : goal.returns-in_err-at
unfolding extent_line
returns-in_err-at c = λ old whole left g.
    rw c.from_residual.ensures (c.in_err-at.ensures old whole (labelled c.args.label.now c.args.extent ++ (newline ++ left)) (rw c.from.ensures (simp append_assoc at g)))

pub returns : goal.returns
unfolding extent_line
returns c = λ old whole left g.
    c.put_last.ensures old whole left (rw append_assoc (c.in_ok-at.ensures old whole (labelled c.args.label.now c.args.extent ++ (newline ++ left)) (rw c.from.ensures (simp append_assoc at g))))
