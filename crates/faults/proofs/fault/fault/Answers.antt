-- `faults::fault::fault` meets its contract.
-- Assumes nothing.
use Rattle.faults.proofs.Stops.{stop_kept}
use Rattle.faults.proofs.fault.fault.Goals as goal

pub returns-in-None : goal.returns-in-None
returns-in-None c =
    rw c.ended.ensures (stop_kept _ _ c.first_stop-stop.result.role c.first_stop-stop.result.broken c.first_stop-stop.ensures c.in-None.is)
