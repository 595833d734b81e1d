use mathlib.Core.Path.{◌≡◌}
use lib.ListN.{drop}
use Rattle.call_text.specs.Token.{token}
use Rattle.call_text.proofs.number.read_token.Given as goal

abbrev pub invariant-loop-at : goal.invariant-loop-at
invariant-loop-at l = token (drop l.at l.text) ≡ token (drop l.p l.text)
