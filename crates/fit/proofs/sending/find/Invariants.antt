use Rattle.fit.proofs.Finding.{Looking}
use Rattle.fit.proofs.sending.find.Given as goal

abbrev pub invariant-loop-left : goal.invariant-loop-left
invariant-loop-left l = Looking l.structure l.end l.count l.feature l.left
