use Rattle.classes.proofs.Start.{Started}
use Rattle.classes.proofs.push.start.Given as goal

abbrev pub invariant-loop-i : goal.invariant-loop-i
invariant-loop-i l = Started l.initial.w l.i l.w
