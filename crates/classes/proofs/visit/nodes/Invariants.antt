use Prim.Native.Nat.{◌+◌, ◌-◌}
use Rattle.area.specs.Region.{loaded_words}
use Rattle.forest.specs.State.{targets}
use Rattle.classes.proofs.Runs.{Marching}
use Rattle.classes.proofs.visit.nodes.Given as goal

abbrev pub invariant-loop-y : goal.invariant-loop-y
invariant-loop-y l = Marching (loaded_words l.initial.w) (targets l.initial.w) l.n.count l.k l.initial.w l.x l.p l.c l.e l.y l.at (l.x + l.c - l.y) l.w
