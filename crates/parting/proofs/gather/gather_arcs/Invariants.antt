use Rattle.parting.specs.Gathered.{GathersArcs}
use Rattle.parting.proofs.gather.gather_arcs.Given as goal

abbrev pub invariant-loop-i : goal.invariant-loop-i
invariant-loop-i l = GathersArcs l.arcs l.homes l.on l.k l.i l.initial.out l.initial.ends l.n l.out l.ends
