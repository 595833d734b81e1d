use Rattle.suite_reading.proofs.Texts.{Blanking}
use Rattle.suite_reading.proofs.text.blank.Given as goal

abbrev pub invariant-loop-i : goal.invariant-loop-i
invariant-loop-i l = Blanking l.text l.out l.named l.i
