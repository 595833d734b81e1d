use Prim.Native.Nat.{◌-◌}
use Rattle.entering.proofs.Entering.{Onward}
use Rattle.entering.proofs.enter.+enter.Given as goal

abbrev pub decreases-enter : goal.decreases-enter
decreases-enter l = l.left

abbrev pub invariant-loop : goal.invariant-loop
invariant-loop l = Onward l.n.count l.k l.g l.left l.more l.initial.at l.initial.log l.initial.w (l.more - l.counter) l.at l.log l.w
