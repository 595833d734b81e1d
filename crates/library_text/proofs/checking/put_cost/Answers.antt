-- `library_text::checking::put_cost` meets its contract.
-- Assumes nothing.
use mathlib.Core.List.{append_assoc}
use Rattle.library_text.specs.Lines.{cost_line}
use Rattle.library_text.proofs.checking.put_cost.Goals as goal

pub returns-in_err-next : goal.returns-in_err-next
unfolding cost_line
returns-in_err-next c = λ old whole left g.
    rw c.from_residual.ensures (c.in_err-next.ensures old whole _ (rw append_assoc at g))

pub returns : goal.returns
unfolding cost_line
returns c = λ old whole left g. c.put_last.ensures old whole left (c.in_ok-next.ensures old whole _ (rw append_assoc at g))
