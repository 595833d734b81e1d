use lib.ListN.{drop}
use Rattle.answer_text.specs.Answer.{after_spaces}
use Rattle.answer_text.proofs.Goings.{Turned}
use Rattle.answer_text.proofs.line.put_each_after_space.Given as goal

abbrev pub invariant-loop-word : goal.invariant-loop-word
invariant-loop-word l = Turned l.initial.dst l.at (after_spaces l.words) l.dst l.end (after_spaces (drop l.word-index l.words))
