use Rattle.trying.specs.Leaf.{FirstLeaves}
use Rattle.trying.proofs.guess.lead_all.Given as goal

abbrev pub invariant-loop-i : goal.invariant-loop-i
invariant-loop-i l = FirstLeaves l.n.count l.w l.g l.base l.d l.i
