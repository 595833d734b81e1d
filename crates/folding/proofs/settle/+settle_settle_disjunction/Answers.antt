-- `folding::settle::settle` and `folding::settle::settle_disjunction`, which call each other, meet their contracts: the disjunctions of
-- an alternative are settled from the last to the first, and so are the alternatives of each; the depth falls.
-- Assumes nothing.
use native.Mathlib.Omega.{arith}
use mathlib.Core.Path.{refl}
use Rattle.folding.proofs.Ending.{room_on}
use Rattle.folding.proofs.Branches.{last_low, going_start, going_low, going_asks, going_clash, going_fine}
use Rattle.folding.proofs.Branches.{going_as, going_done}
use Rattle.folding.proofs.Settles.{rising_start, rising_asks, rising_dead, rising_less, rising_more}
use Rattle.folding.proofs.Settles.{rising_parts, rising_done}
use Rattle.folding.proofs.settle.+settle_settle_disjunction.Goals.{settle_disjunction-in-Some, settle_disjunction-in_default}
use Rattle.folding.proofs.settle.+settle_settle_disjunction.Goals as goal

pub settle-loop-last-init : goal.settle-loop-last-init
settle-loop-last-init t c =
    rising_start _ _ _ _ _ _ _ (omega arith) c.wide-last.ensures

pub settle-overflow_sub-left : goal.settle-overflow_sub-left
settle-overflow_sub-left t c =
    let more = (rising_asks c.loop-last.invariant (λ e. omega arith) c.requires.settling).0 in
    omega arith

pub settle-settle_disjunction-requires : goal.settle-settle_disjunction-requires
settle-settle_disjunction-requires t c =
    let (more, asked) = rising_asks c.loop-last.invariant (λ e. omega arith) c.requires.settling in
    (omega arith, (asked, room_on c.requires.settling_room c.loop-last.invariant.size c.loop-last.invariant.grown))

pub settle-returns-in_err-branch : goal.settle-returns-in_err-branch
settle-returns-in_err-branch t c =
    rw c.from_residual.ensures (rising_dead c.loop-last.invariant (λ e. omega arith) c.settle_disjunction.ensures c.in_err-branch.was)

pub settle-overflow_add-count : goal.settle-overflow_add-count
settle-overflow_add-count t c =
    let less = (rising_less c.loop-last.invariant (λ e. omega arith) c.settle_disjunction.ensures c.requires.settling _
    c.in_ok-branch.was).1 in
    omega arith

pub settle-loop-last-smaller : goal.settle-loop-last-smaller
settle-loop-last-smaller t c =
    (rising_less c.loop-last.invariant (λ e. omega arith) c.settle_disjunction.ensures c.requires.settling _
    c.in_ok-branch.was).0

pub settle-loop-last-preserved : goal.settle-loop-last-preserved
settle-loop-last-preserved t c =
    rising_more c.loop-last.invariant (λ e. omega arith) c.settle_disjunction.ensures c.requires.settling _
    c.in_ok-branch.was

pub settle-close-requires-clause-parting : goal.settle-close-requires-clause-parting
settle-close-requires-clause-parting t c = rising_parts c.loop-last.invariant (omega arith) c.requires.settling

pub settle-returns : goal.settle-returns
settle-returns t c =
    rising_done c.loop-last.invariant (omega arith) c.close.ensures

pub settle_disjunction-overflow_mul-g : goal.settle_disjunction-overflow_mul-g
settle_disjunction-overflow_mul-g t c =
    let low = last_low _ _ _ _ _ c.requires.branch_settling in
    omega arith

pub settle_disjunction-offset_bounds-tables-last : goal.settle_disjunction-offset_bounds-tables-last
settle_disjunction-offset_bounds-tables-last t c =
    let low = last_low _ _ _ _ _ c.requires.branch_settling in
    omega arith

pub settle_disjunction-bounds-tables-last : goal.settle_disjunction-bounds-tables-last
settle_disjunction-bounds-tables-last t c =
    let low = last_low _ _ _ _ _ c.requires.branch_settling in
    omega arith

pub settle_disjunction-loop-homes-init : goal.settle_disjunction-loop-homes-init
settle_disjunction-loop-homes-init t c =
    (going_start _ _ _ _ _ _ _ c.requires.branch_settling (omega arith), refl)

pub settle_disjunction-beside-requires : goal.settle_disjunction-beside-requires
settle_disjunction-beside-requires t c =
    let low = going_low c.loop-homes.invariant.0 c.requires.branch_settling in
    omega arith

pub settle_disjunction-settle-requires : goal.settle_disjunction-settle-requires
settle_disjunction-settle-requires t c =
    let (n, e) = c.beside.ensures.is c.loop-homes-test.true in
    (omega arith, ((going_asks c.loop-homes.invariant.0 n e c.requires.branch_settling).1, room_on c.requires.settling_room c.loop-homes.invariant.0.size c.loop-homes.invariant.0.grown))

pub settle_disjunction-overflow_add-kept : goal.settle_disjunction-overflow_add-kept
settle_disjunction-overflow_add-kept t c =
    let low = going_low c.loop-homes.invariant.0 c.requires.branch_settling in
    omega arith

pub settle_disjunction-overflow_mul-c : goal.settle_disjunction-overflow_mul-c
settle_disjunction-overflow_mul-c t c =
    let low = going_low c.loop-homes.invariant.0 c.requires.branch_settling in
    omega arith

pub settle_disjunction-overflow_add-c : goal.settle_disjunction-overflow_add-c
settle_disjunction-overflow_add-c t c =
    let low = going_low c.loop-homes.invariant.0 c.requires.branch_settling in
    omega arith

pub settle_disjunction-offset_bounds-tables-c : goal.settle_disjunction-offset_bounds-tables-c
settle_disjunction-offset_bounds-tables-c t c =
    let low = going_low c.loop-homes.invariant.0 c.requires.branch_settling in
    omega arith

pub settle_disjunction-bounds-tables-c : goal.settle_disjunction-bounds-tables-c
settle_disjunction-bounds-tables-c t c =
    let low = going_low c.loop-homes.invariant.0 c.requires.branch_settling in
    omega arith

pub settle_disjunction-loop-homes-smaller : goal.settle_disjunction-loop-homes-smaller
settle_disjunction-loop-homes-smaller t c =
    let (n, e) = c.beside.ensures.is c.loop-homes-test.true in
    let less = (going_asks c.loop-homes.invariant.0 n e c.requires.branch_settling).0 in
    omega arith

pub settle_disjunction-loop-homes-preserved : goal.settle_disjunction-loop-homes-preserved
settle_disjunction-loop-homes-preserved t c =
    let v = c.loop-homes.invariant.0 in
    let low = going_low v c.requires.branch_settling in
    let few = c.requires.settling_room.few in
    let (n, e) = c.beside.ensures.is c.loop-homes-test.true in
    elim c.match-settle.branch [
      | settle_disjunction-in-Some w ↦ going_as w.at-is c.wide-c.ensures w.kept-is w.first-is
          (going_fine v n e c.settle.ensures c.requires.branch_settling _ w.in-Some.is, (omega arith, omega arith))
      | settle_disjunction-in_default w ↦ going_as w.at-is c.wide-c.ensures w.kept-is w.first-is
          (going_clash v n e c.settle.ensures w.in_default.is, c.loop-homes.invariant.1)
    ]

pub settle_disjunction-returns : goal.settle_disjunction-returns
settle_disjunction-returns t c =
    going_done c.loop-homes.invariant.0 (c.beside.ensures.not c.loop-homes-test.false) c.conclude.ensures
