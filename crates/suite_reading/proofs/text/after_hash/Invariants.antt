use mathlib.Core.Path.{◌≡◌}
use lib.ListN.{drop}
use Rattle.suite_reading.specs.Text.{from_hash}
use Rattle.suite_reading.proofs.text.after_hash.Given as goal

abbrev pub invariant-loop-at : goal.invariant-loop-at
invariant-loop-at l = from_hash (drop l.at l.run) ≡ from_hash l.run
