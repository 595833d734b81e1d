-- `explaining::explain_call` meets its contract.
-- Assumes nothing.
use mathlib.Core.Path.{sym}
use Rattle.explaining.proofs.Texts.{call_stops, call_explained}
use Rattle.explaining.proofs.explain_call.Goals as goal

pub returns-in_err-at : goal.returns-in_err-at
returns-in_err-at c =
    rw c.from_residual.ensures (call_stops _ _ c.second_line-line.ensures.0 c.second_line-line.ensures.1 _ _ _
    c.answer_told-replied.ensures.wrote (sym c.in_err-at.was))

pub returns : goal.returns
returns c =
    call_explained _ _ c.second_line-line.ensures.0 c.second_line-line.ensures.1 _ _ _ c.answer_told-replied.ensures.wrote _ c.in_ok-at.was
    _ _ c.put_second_line.ensures
