use Rattle.area.specs.Region.{loaded_words}
use Rattle.forest.specs.State.{targets}
use Rattle.forest.specs.Outcome.{link_code}
use Rattle.classes.proofs.Runs.{Stringing}
use Rattle.classes.proofs.visit.arcs.Given as goal

abbrev pub invariant-loop-i : goal.invariant-loop-i
invariant-loop-i l = Stringing (loaded_words l.initial.w) (targets l.initial.w) l.n.count l.k l.initial.w l.x l.from l.d l.i l.came.k (link_code l.came.at) l.w
