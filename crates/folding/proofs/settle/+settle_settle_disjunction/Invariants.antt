use Prim.Native.Nat.{◌+◌, ◌*◌}
use Rattle.parting.specs.Parted.{tables_of}
use Rattle.folding.specs.Settled.{KeptFirst, alternative_of, count_of, inner_of}
use Rattle.folding.proofs.Branches.{Going}
use Rattle.folding.proofs.Settles.{Rising}
use Rattle.folding.proofs.settle.+settle_settle_disjunction.Given as goal

abbrev pub decreases-settle : goal.decreases-settle
decreases-settle l = 2 * l.left

abbrev pub decreases-settle_disjunction : goal.decreases-settle_disjunction
decreases-settle_disjunction l = 2 * l.left + 1

abbrev pub invariant-settle-loop-last : goal.invariant-settle-loop-last
invariant-settle-loop-last l =
    Rising (tables_of l.tables) l.initial.homes l.initial.words l.len l.k l.left l.homes l.words l.at l.last l.count

abbrev pub decreases-settle-loop-last : goal.decreases-settle-loop-last
decreases-settle-loop-last l = l.last

abbrev pub invariant-settle_disjunction-loop-homes : goal.invariant-settle_disjunction-loop-homes
invariant-settle_disjunction-loop-homes l =
    Going (tables_of l.tables) l.initial.homes l.initial.words l.len l.k l.last l.left l.homes l.words l.at l.c l.kept
    (alternative_of l.first) (count_of l.first) (inner_of l.first) × KeptFirst l.kept l.first

abbrev pub decreases-settle_disjunction-loop-homes : goal.decreases-settle_disjunction-loop-homes
decreases-settle_disjunction-loop-homes l =
    l.c
