-- `leaving::leave::leave` meets its contract: what was found is kept, and what is certain then is pushed anew. Assumes nothing.
use Rattle.leaving.proofs.Fulling.{keeps_nothing, keep_restarts, keep_never, keeps_left}
use native.Mathlib.Omega.{arith}
use Rattle.leaving.proofs.leave.leave.Goals as goal

pub returns-then-readings-eq0 : goal.returns-then-readings-eq0
returns-then-readings-eq0 c = keeps_nothing _ _ _ _ (omega arith)

pub restart-requires : goal.restart-requires
restart-requires c = keep_restarts _ _ _ _ (λ e. omega arith) _ c.keep_lit.ensures c.requires

-- every consistent choice takes what is certain
pub returns-in_err-log : goal.returns-in_err-log
returns-in_err-log c =
    absurd (keep_never _ _ _ _ (λ e. omega arith) _ c.keep_lit.ensures _ _ c.restart.ensures c.in_err-log.ensures.ok_part c.requires)

pub returns : goal.returns
returns c =
    keeps_left _ _ _ _ (λ e. omega arith) _ c.keep_lit.ensures _ _ c.restart.ensures _ c.in_ok-log.ensures.ok_part c.requires
