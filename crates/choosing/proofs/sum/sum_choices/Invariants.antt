use Prim.Native.Nat.{◌≤◌, ◌-◌}
use Rattle.theory.specs.Limits.{choice_stop}
use Rattle.choosing.specs.Chosen.{Summing}
use Rattle.choosing.proofs.Walks.{Still}
use Rattle.choosing.proofs.Sums.{Adds}
use Rattle.choosing.proofs.sum.sum_choices.Given as goal

abbrev pub invariant-loop : goal.invariant-loop
invariant-loop l = ((c : Summing l.w l.p l.count l.left) → Still c (Adds c l.sum) (l.count - l.counter) l.at) × (l.sum ≤ choice_stop)
