use Rattle.parting.specs.Gathered.{arc_table}
use Rattle.parting.proofs.Marked.{Halves}
use Rattle.parting.proofs.gather.mark_trail.Given as goal

abbrev pub invariant-loop-s : goal.invariant-loop-s
invariant-loop-s l = Halves (arc_table l.arcs) l.from l.initial.on l.s l.on

abbrev pub decreases-loop-s : goal.decreases-loop-s
decreases-loop-s l = l.s
