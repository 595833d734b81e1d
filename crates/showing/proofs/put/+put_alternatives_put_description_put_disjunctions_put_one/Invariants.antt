use Prim.Native.Nat.{◌-◌}
use Prim.Native.Nat.{◌+◌, ◌*◌}
use Rattle.showing.specs.Putting.{Disjoining, Offering}
use Rattle.showing.proofs.Disjoining as disjoining
use Rattle.showing.proofs.Offering as offering
use Rattle.showing.proofs.put.+put_alternatives_put_description_put_disjunctions_put_one.{}
use Rattle.showing.proofs.put.+put_alternatives_put_description_put_disjunctions_put_one.Given as goal

abbrev pub decreases-put_alternatives : goal.decreases-put_alternatives
decreases-put_alternatives l = 4 * l.left + 2

abbrev pub decreases-put_description : goal.decreases-put_description
decreases-put_description l = 4 * l.left + 1

abbrev pub decreases-put_disjunctions : goal.decreases-put_disjunctions
decreases-put_disjunctions l = 4 * l.left

abbrev pub decreases-put_one : goal.decreases-put_one
decreases-put_one l = 4 * l.left + 3

abbrev pub invariant-put_alternatives-loop : goal.invariant-put_alternatives-loop
invariant-put_alternatives-loop l = (d : Offering l.n.count l.initial.w l.p l.of l.left l.o) →
    offering.Going l.n.count l.initial.w l.p l.of l.left l.o d (l.of - l.counter) l.at l.out l.w

abbrev pub invariant-put_disjunctions-loop : goal.invariant-put_disjunctions-loop
invariant-put_disjunctions-loop l = (d : Disjoining l.n.count l.initial.w l.g l.left l.o) →
    disjoining.Going l.n.count l.initial.w l.g l.left l.o d (l.more - l.counter) l.at l.out l.count l.w
