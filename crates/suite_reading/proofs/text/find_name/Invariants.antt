use Rattle.suite_reading.proofs.Texts.{Naming}
use Rattle.suite_reading.proofs.text.find_name.Given as goal

abbrev pub invariant-loop-to : goal.invariant-loop-to
invariant-loop-to l = Naming l.run l.from l.to
