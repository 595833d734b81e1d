use Prim.Native.Nat.{◌+◌, ◌-◌}
use Rattle.plain.proofs.Joining.{Through, Onward}
use Rattle.plain.proofs.Choices.{Gone}
use Rattle.plain.proofs.expand.expand.Given as goal

abbrev pub invariant-choices : goal.invariant-choices
invariant-choices l = Gone l.n.count l.k l.initial.w l.total l.next l.found l.w

abbrev pub invariant-loop-i : goal.invariant-loop-i
invariant-loop-i l = Through l.n.count l.k l.initial.w l.many l.i l.log l.w

abbrev pub invariant-loop-node : goal.invariant-loop-node
invariant-loop-node l =
    Onward l.n.count l.first l.initial.at l.count l.initial.log l.initial.w l.node l.at (l.first + l.count - l.node) l.log l.w
