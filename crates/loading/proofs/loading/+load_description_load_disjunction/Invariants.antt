use Prim.Native.Nat.{◌+◌, ◌*◌, ◌-◌}
use Rattle.loading.specs.Loading.{stock}
use Rattle.loading.proofs.Series.{Onward}
use Rattle.loading.proofs.Sequels.{its_disjunctions}
use Rattle.loading.proofs.Sequels.{its_alternatives}
use Rattle.loading.proofs.loading.+load_description_load_disjunction.Given as goal

abbrev pub decreases-load_description : goal.decreases-load_description
decreases-load_description l = 2 * l.left + 1

abbrev pub decreases-load_disjunction : goal.decreases-load_disjunction
decreases-load_disjunction l = 2 * l.left

abbrev pub invariant-load_description-loop : goal.invariant-load_description-loop
invariant-load_description-loop l =
    Onward l.ws l.shift l.initial.reach.at (stock l.initial.reach.number 0 l.initial.reach.mark) (its_disjunctions l.left l.count) (its_disjunctions l.left (l.count - l.counter)) l.initial.t l.t l.reach.at
    (stock l.reach.number 0 l.reach.mark)

abbrev pub invariant-load_disjunction-loop-own : goal.invariant-load_disjunction-loop-own
invariant-load_disjunction-loop-own l =
    Onward l.ws l.shift l.initial.reach.at (stock l.initial.reach.number l.mark l.initial.reach.mark) (its_alternatives (l.left - 1) l.count) (its_alternatives (l.left - 1) (l.mark + l.count - l.own))
    l.initial.t l.t l.reach.at (stock l.reach.number l.own l.reach.mark)
