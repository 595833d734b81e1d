use mathlib.Core.Path.{◌≡◌}
use Prim.Native.Nat.{◌+◌, ◌*◌, ◌-◌}
use Rattle.layout.specs.Skipping.{ends, disjunctionEnd, nestedEnd}
use Rattle.layout.proofs.skipping.+skip_disjunction_skip_nested.Given as goal

abbrev pub decreases-skip_disjunction : goal.decreases-skip_disjunction
decreases-skip_disjunction l = 2 * l.left

abbrev pub decreases-skip_nested : goal.decreases-skip_nested
decreases-skip_nested l = 2 * l.left + 1

abbrev pub invariant-skip_disjunction-loop : goal.invariant-skip_disjunction-loop
invariant-skip_disjunction-loop l = disjunctionEnd l.left l.ws l.p ≡ ends l.ws (nestedEnd (l.left - 1) l.ws) (l.end - l.counter) l.at

abbrev pub invariant-skip_nested-loop : goal.invariant-skip_nested-loop
invariant-skip_nested-loop l = nestedEnd l.left l.ws l.p ≡ ends l.ws (disjunctionEnd l.left l.ws) (l.end - l.counter) l.at
