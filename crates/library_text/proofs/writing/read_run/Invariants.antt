use lib.ListN.{length, drop}
use Rattle.call_text.specs.Call.{words_in}
use Rattle.call_text.proofs.Runs.{Going}
use Rattle.library_text.proofs.writing.read_run.Given as goal

abbrev pub invariant-loop-word : goal.invariant-loop-word
invariant-loop-word l = Going l.text (words_in (length l.initial.dst) (drop l.p l.text)) l.initial.dst (length l.initial.dst) l.dst l.at l.word-index
