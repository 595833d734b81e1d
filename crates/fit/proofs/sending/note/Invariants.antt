use Rattle.fit.proofs.Noting.{Noting}
use Rattle.fit.proofs.sending.note.Given as goal

abbrev pub invariant-loop-i : goal.invariant-loop-i
invariant-loop-i l = Noting l.structure l.place l.i l.at
