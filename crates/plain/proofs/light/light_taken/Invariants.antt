use Rattle.plain.proofs.Lit.{LitUp}
use Rattle.plain.proofs.light.light_taken.Given as goal

abbrev pub invariant-loop-i : goal.invariant-loop-i
invariant-loop-i l = LitUp l.initial.w l.many l.i l.w
