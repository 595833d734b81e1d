use Prim.Native.Nat.{◌-◌}
use mathlib.Core.Path.{◌≡◌}
use lib.ListN.{drop}
use Rattle.call_text.specs.Call.{words_in}
use Rattle.call_text.specs.Finding.{beyond}
use Rattle.call_text.proofs.call.skip_words.Given as goal

abbrev pub invariant-loop : goal.invariant-loop
invariant-loop l = beyond (words_in (l.count - l.counter) (drop l.at l.text)) ≡ beyond (words_in l.count (drop l.p l.text))
