use Rattle.quick.proofs.Rounds.{rounds_left, Rounds}
use Rattle.quick.proofs.quick.quick.Given as goal

abbrev pub invariant-loop-again : goal.invariant-loop-again
invariant-loop-again l = Rounds l.n.count l.k l.initial.w l.log l.again l.w

abbrev pub decreases-loop-again : goal.decreases-loop-again
decreases-loop-again l = rounds_left l.again l.w
