use Rattle.closing.proofs.Atoms.{Bearings}
use Rattle.closing.proofs.bearing.bear.Given as goal

abbrev pub invariant-loop-row : goal.invariant-loop-row
invariant-loop-row l = Bearings l.labels l.heads l.atoms l.row-index l.holds
