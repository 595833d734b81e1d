use lib.ListN.{drop}
use Rattle.answer_text.proofs.Goings.{Turned}
use Rattle.answer_text.proofs.line.put_run.Given as goal

abbrev pub invariant-loop-byte : goal.invariant-loop-byte
invariant-loop-byte l = Turned l.initial.dst l.at l.run l.dst l.end (drop l.byte-index l.run)
