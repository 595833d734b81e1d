use Rattle.parting.specs.Gathered.{Gathers}
use Rattle.parting.proofs.gather.gather_rows.Given as goal

abbrev pub invariant-loop-i : goal.invariant-loop-i
invariant-loop-i l = Gathers l.rows l.homes l.k l.i l.initial.out l.n l.out
