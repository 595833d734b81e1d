use Rattle.faults.specs.Coded.{expected_of}
use Rattle.faults.proofs.Going.{Going}
use Rattle.faults.proofs.stop.first_stop.Given as goal

abbrev pub invariant-loop-at : goal.invariant-loop-at
invariant-loop-at l = Going l.ws (expected_of l.expected) l.at
