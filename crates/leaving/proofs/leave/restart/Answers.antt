-- `leaving::leave::restart` meets its contract: all is taken back, then the first input is entered, and the second. Assumes nothing.
use Rattle.leaving.proofs.Restarting.{restart_back, restart_first, restarts_clash, restart_second, restarts}
use Rattle.leaving.proofs.leave.restart.Goals as goal

pub back-requires : goal.back-requires
back-requires c = restart_back _ _ _ c.requires

pub enter-requires : goal.enter-requires
enter-requires c = restart_first _ _ _ _ c.back.ensures c.requires

pub returns-in_err-first : goal.returns-in_err-first
returns-in_err-first c = rw c.from_residual.ensures (restarts_clash _ _ _ _ c.back.ensures _ _ c.enter.ensures c.in_err-first.was)

pub enter-requires-2 : goal.enter-requires-2
enter-requires-2 c = restart_second _ _ _ _ c.back.ensures _ _ c.enter.ensures _ c.in_ok-first.was c.requires

pub returns : goal.returns
returns c = restarts _ _ _ _ c.back.ensures _ _ c.enter.ensures _ c.in_ok-first.was _ _ c.enter-2.ensures
