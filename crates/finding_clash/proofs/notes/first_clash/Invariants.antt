use Rattle.finding_clash.proofs.Passing.{Passed}
use Rattle.finding_clash.proofs.notes.first_clash.Given as goal

abbrev pub invariant-loop-i : goal.invariant-loop-i
invariant-loop-i l = Passed l.n.count l.c l.b l.i l.w
