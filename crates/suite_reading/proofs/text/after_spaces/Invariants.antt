use mathlib.Core.Path.{◌≡◌}
use lib.ListN.{drop}
use Rattle.suite_reading.specs.Text.{spaces_off}
use Rattle.suite_reading.proofs.text.after_spaces.Given as goal

abbrev pub invariant-loop-at : goal.invariant-loop-at
invariant-loop-at l = spaces_off (drop l.at l.run) ≡ spaces_off (drop l.p l.run)
