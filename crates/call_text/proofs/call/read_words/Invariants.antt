use lib.ListN.{drop}
use Rattle.call_text.specs.Call.{words_in}
use Rattle.call_text.proofs.Runs.{Going}
use Rattle.call_text.proofs.call.read_words.Given as goal

abbrev pub invariant-loop-i : goal.invariant-loop-i
invariant-loop-i l = Going l.text (words_in l.count (drop l.p l.text)) l.initial.dst l.count l.dst l.at l.i
