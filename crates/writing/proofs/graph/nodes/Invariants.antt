use Prim.Native.Nat.{◌-◌}
use Rattle.writing.proofs.Heads.{Going}
use Rattle.writing.proofs.graph.nodes.Given as goal

abbrev pub invariant-loop-i : goal.invariant-loop-i
invariant-loop-i l = Going l.n.count l.k l.initial.w l.from l.at l.met l.i l.w

abbrev pub decreases-loop-i : goal.decreases-loop-i
decreases-loop-i l = 4096 - l.i
