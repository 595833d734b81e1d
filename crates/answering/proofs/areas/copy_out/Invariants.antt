use mathlib.Core.Path.{◌≡◌}
use lib.Seq.{paste}
use Rattle.answering.proofs.areas.copy_out.Given as goal

abbrev pub invariant-loop-i : goal.invariant-loop-i
invariant-loop-i l = l.res ≡ paste l.initial.res 0 l.words l.i
