use Prim.Native.Nat.{◌-◌, ◌≤◌}
use Rattle.theory.specs.Limits.{choice_stop}
use Rattle.marks.specs.Readable.{Readable}
use Rattle.counting.proofs.Descent.{Multiplying, Summing}
use Rattle.counting.proofs.choices.+count_choices.Given as goal

abbrev pub decreases-count_choices : goal.decreases-count_choices
decreases-count_choices l = l.left

abbrev pub invariant-loop-alternative : goal.invariant-loop-alternative
invariant-loop-alternative l =
    ((c : Readable l.w l.p l.left) → Summing l.w l.p l.left c (l._disjunction-end - l._disjunction) l.product l.at (l.count - l._alternative) l.sum)
    × (l.sum ≤ choice_stop)

abbrev pub invariant-loop-disjunction : goal.invariant-loop-disjunction
invariant-loop-disjunction l = ((c : Readable l.w l.p l.left) → Multiplying l.w l.p l.left c (l._disjunction-end - l._disjunction) l.at l.product)
    × (l.product ≤ choice_stop)
