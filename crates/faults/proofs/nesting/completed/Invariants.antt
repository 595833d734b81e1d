use mathlib.Core.Path.{◌≡◌}
use Rattle.roles.specs.Faults.{completed}
use Rattle.faults.specs.Coded.{nesting_of}
use Rattle.faults.proofs.nesting.completed.Given as goal

abbrev pub invariant-loop-last : goal.invariant-loop-last
invariant-loop-last l = (l.left.depth ≡ l.last) × (completed (nesting_of l.left) ≡ completed (nesting_of l.initial.left))
