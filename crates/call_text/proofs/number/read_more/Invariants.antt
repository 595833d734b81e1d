use Prim.Native.Nat.{◌≤◌}
use mathlib.Core.Path.{◌≡◌}
use lib.ListN.{drop}
use Rattle.call_text.specs.Token.{largest, more}
use Rattle.call_text.proofs.number.read_more.Given as goal

abbrev pub invariant-loop-at : goal.invariant-loop-at
invariant-loop-at l = (l.value ≤ largest) × (more l.value (drop l.at l.text) ≡ more l.first (drop l.p l.text))
