use Rattle.area.specs.Region.{loaded_words}
use Rattle.forest.specs.State.{targets, FrameWalk, hops}
use Rattle.forest.proofs.settle.drain.Given as goal

abbrev pub invariant-loop-x : goal.invariant-loop-x
invariant-loop-x l = FrameWalk (loaded_words l.initial.w) (targets l.initial.w) l.n.count l.k l.s l.initial.w l.from l.to l.m.k l.m.s l.w l.x

abbrev pub decreases-loop-x : goal.decreases-loop-x
decreases-loop-x l = hops 2048 l.w l.to l.x
