use Prim.Native.Nat.{◌+◌}
use Rattle.area.specs.Region.{loaded_words}
use Rattle.forest.specs.Forest.{parents, tops}
use Rattle.forest.specs.State.{targets}
use Rattle.forest.proofs.Drain.{Settling}
use Rattle.forest.proofs.settle.settle.Given as goal

abbrev pub invariant-loop-m : goal.invariant-loop-m
invariant-loop-m l = Settling (loaded_words l.initial.w) (targets l.initial.w) l.n.count l.k l.s l.initial.w l.m.k l.m.s l.w

abbrev pub decreases-loop-m : goal.decreases-loop-m
decreases-loop-m l = l.m.s + tops 0 (parents l.n.count l.w)
