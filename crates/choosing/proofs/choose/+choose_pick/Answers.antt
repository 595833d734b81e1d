-- The cycle of `choose` and `pick` meets its contracts: what is written and what is still to come are the way, and the depth falls.
-- Assumes nothing.
use Prim.Native.Nat.{ℕ}
use native.Mathlib.Omega.{arith}
use native.Mathlib.Nat.{sub-zero, sub-add-eq}
use mathlib.Core.Path.{◌≡◌, refl, sym, ap, subst, ◌∙◌}
use mathlib.Core.Logic.{⊎_elim}
use mathlib.Core.Bool.{Bool}
use mathlib.Core.List.{List}
use lib.ListN.{length}
use Rattle.choosing.specs.Chosen.{Picking, Picks}
use Rattle.choosing.proofs.Frames.{beyond_none}
use Rattle.choosing.proofs.Picked.{skipped, passed, goes_all, goes_none, goes_here, goes_asks, goes_room, goes_on}
use Rattle.choosing.proofs.Picked.{goes_asks_in, goes_beyond, goes_writes}
use Rattle.choosing.proofs.Going.{going_starts, going_all, going_none, going_here, going_deep, going_told, going_sums}
use Rattle.choosing.proofs.Going.{going_some, going_rest, going_asks, going_beyond, going_on}
use Rattle.choosing.proofs.choose.+choose_pick.Goals as goal
use Rattle.choosing.proofs.choose.+choose_pick.Goals.{pick-then-kept+else-index-total, pick-else-kept}

still-asks : {w w₀ : List ℕ} {p count left at : ℕ} → w ≡ w₀ → Picking w₀ p count left at → Picking w p count left at
still-asks {w} {w₀} {p} {count} {left} {at} e k = subst (λ (z : List ℕ). Picking z p count left at) (sym e) k

picks-from : {w w₀ : List ℕ} {p count left i : ℕ} {new : Bool} {at r : ℕ} {w' : List ℕ} → w ≡ w₀ → Picks w p count left i new at r w' →
    Picks w₀ p count left i new at r w'
picks-from {w} {w₀} {p} {count} {left} {i} {new} {at} {r} {w'} e k = subst (λ (z : List ℕ). Picks z p count left i new at r w') e k

pub choose-tail_at-e-requires : goal.choose-tail_at-e-requires
choose-tail_at-e-requires t c = (going_starts c.requires).0

pub choose-disjunctions_at-more-requires : goal.choose-disjunctions_at-more-requires
choose-disjunctions_at-more-requires t c =
    let h = (going_starts c.requires).1 in
    omega arith

pub choose-overflow_add-p : goal.choose-overflow_add-p
choose-overflow_add-p t c =
    let h = (going_starts c.requires).1 in
    omega arith

pub choose-loop-init : goal.choose-loop-init
choose-loop-init t c =
    (beyond_none _ _, λ k. rw sub-zero (going_all k _ _ _ _ c.tail_at-e.ensures c.disjunctions_at-more.ensures))

pub choose-alternatives_at-count-requires : goal.choose-alternatives_at-count-requires
choose-alternatives_at-count-requires t c =
    (going_here c.requires _ _ (c.loop.invariant.1 c.requires) c.loop.invariant.0 (omega arith)).0

pub choose-overflow_add-first : goal.choose-overflow_add-first
choose-overflow_add-first t c =
    let h = (going_here c.requires _ _ (c.loop.invariant.1 c.requires) c.loop.invariant.0 (omega arith)).0 in
    omega arith

pub choose-overflow_sub-inside : goal.choose-overflow_sub-inside
choose-overflow_sub-inside t c =
    going_deep c.requires _ _ (c.loop.invariant.1 c.requires) c.loop.invariant.0 (omega arith)

pub choose-count_kept-tally-requires : goal.choose-count_kept-tally-requires
choose-count_kept-tally-requires t c =
    going_told c.requires _ _ (c.loop.invariant.1 c.requires) c.loop.invariant.0 (omega arith) c.alternatives_at-count.ensures

pub choose-sum_choices-sum-requires : goal.choose-sum_choices-sum-requires
choose-sum_choices-sum-requires t c =
    going_sums c.requires _ _ (c.loop.invariant.1 c.requires) c.loop.invariant.0 (omega arith) c.alternatives_at-count.ensures

pub choose-nonzero_div-rest : goal.choose-nonzero_div-rest
choose-nonzero_div-rest t c =
    going_some c.requires _ _ (c.loop.invariant.1 c.requires) c.loop.invariant.0 (omega arith) c.alternatives_at-count.ensures c.sum_choices-sum.ensures

pub choose-nonzero_div-index : goal.choose-nonzero_div-index
choose-nonzero_div-index t c =
    going_rest c.requires _ _ (c.loop.invariant.1 c.requires) c.loop.invariant.0 (omega arith) c.alternatives_at-count.ensures c.sum_choices-sum.ensures _ refl

pub choose-pick-to-requires : goal.choose-pick-to-requires
choose-pick-to-requires t c =
    let deep = going_deep c.requires _ _ (c.loop.invariant.1 c.requires) c.loop.invariant.0 (omega arith) in
    (omega arith, going_asks c.requires _ _ (c.loop.invariant.1 c.requires) c.loop.invariant.0 (omega arith) c.alternatives_at-count.ensures c.sum_choices-sum.ensures _ refl)

pub choose-nonzero_rem-index : goal.choose-nonzero_rem-index
choose-nonzero_rem-index t c =
    going_rest c.requires _ _ (c.loop.invariant.1 c.requires) c.loop.invariant.0 (omega arith) c.alternatives_at-count.ensures c.sum_choices-sum.ensures _ refl

pub choose-loop-preserved : goal.choose-loop-preserved
choose-loop-preserved t c = (
  going_beyond c.requires _ _ (c.loop.invariant.1 c.requires) c.loop.invariant.0 (omega arith) c.alternatives_at-count.ensures c.sum_choices-sum.ensures _ refl c.count_kept-tally.ensures c.beside_other-beside.ensures c.pick-to.ensures,
  λ d. rw sub-add-eq (going_on d _ _ (c.loop.invariant.1 d) c.loop.invariant.0 (omega arith) c.alternatives_at-count.ensures c.sum_choices-sum.ensures _ refl c.count_kept-tally.ensures c.beside_other-beside.ensures c.pick-to.ensures _ refl),
)

pub choose-returns : goal.choose-returns
choose-returns t c = record { beyond = c.loop.invariant.0; writes = λ k. going_none k _ _ (c.loop.invariant.1 k) (omega arith) }

pub pick-loop-init : goal.pick-loop-init
pick-loop-init t c = (refl, λ k. rw sub-zero (goes_all k _ _))

pub pick-mark_at-requires : goal.pick-mark_at-requires
pick-mark_at-requires t c =
    let k = still-asks c.loop.invariant.0 c.requires in
    let old : _ × _ = goes_here k _ _ _ (c.loop.invariant.1 k) (omega arith) in record { p_bound = old.0.0; p_bound_2 = old.1 }

pub pick-kept-requires : goal.pick-kept-requires
pick-kept-requires t c =
    let k = still-asks c.loop.invariant.0 c.requires in
    c.mark_at.ensures.1

pub pick-count_choices-total-requires : goal.pick-count_choices-total-requires
pick-count_choices-total-requires t c =
    let k = still-asks c.loop.invariant.0 c.requires in
    goes_asks k _ _ _ (c.loop.invariant.1 k) (omega arith)

pub pick-word_of-requires : goal.pick-word_of-requires
pick-word_of-requires t c =
    let k = still-asks c.loop.invariant.0 c.requires in
    (goes_here k _ _ _ (c.loop.invariant.1 k) (omega arith)).0.0

pub pick-overflow_add-w : goal.pick-overflow_add-w
pick-overflow_add-w t c =
    let k = still-asks c.loop.invariant.0 c.requires in
    let h = goes_room k _ _ _ (c.loop.invariant.1 k) (omega arith) in
    let l = k.sums.room in
    omega arith

pub pick-offset_bounds-w-at : goal.pick-offset_bounds-w-at
pick-offset_bounds-w-at t c =
    let k = still-asks c.loop.invariant.0 c.requires in
    let h = goes_room k _ _ _ (c.loop.invariant.1 k) (omega arith) in
    let l = k.sums.room in
    omega arith

pub pick-bounds-w-at : goal.pick-bounds-w-at
pick-bounds-w-at t c =
    let k = still-asks c.loop.invariant.0 c.requires in
    let h = goes_room k _ _ _ (c.loop.invariant.1 k) (omega arith) in
    let l = k.sums.room in
    omega arith

pub pick-overflow_add-at : goal.pick-overflow_add-at
pick-overflow_add-at t c =
    let k = still-asks c.loop.invariant.0 c.requires in
    let h = goes_room k _ _ _ (c.loop.invariant.1 k) (omega arith) in
    let l = k.sums.room in
    omega arith

pub pick-choose-requires : goal.pick-choose-requires
pick-choose-requires t c =
    let k = still-asks c.loop.invariant.0 c.requires in
    (omega arith, goes_asks_in k _ _ _ (c.loop.invariant.1 k) (omega arith) _ c.mark_at.ensures _ (cc) c.count_choices-total.ensures (omega arith) _ c.word_of.ensures)

pub pick-returns-then-index-total : goal.pick-returns-then-index-total
pick-returns-then-index-total t c =
    let k = still-asks c.loop.invariant.0 c.requires in
    picks-from c.loop.invariant.0 (record {
      beyond = goes_beyond k _ _ _ (c.loop.invariant.1 k) (omega arith) _ c.mark_at.ensures _ (cc) c.count_choices-total.ensures (omega arith) _ c.word_of.ensures _ _ c.choose.ensures;
      writes = λ d. goes_writes d _ _ _ (c.loop.invariant.1 d) (omega arith) _ c.mark_at.ensures _ (cc) c.count_choices-total.ensures (omega arith) _ c.word_of.ensures _ _ c.choose.ensures;
    })

pub pick-after_at-g-requires : goal.pick-after_at-g-requires
pick-after_at-g-requires t c =
    let k = still-asks c.loop.invariant.0 c.requires in
    let old : _ × _ = goes_here k _ _ _ (c.loop.invariant.1 k) (omega arith) in record { p_bound = old.0.0; p_bound_2 = old.1 }

pub pick-loop-preserved : goal.pick-loop-preserved
pick-loop-preserved t c = (
  c.loop.invariant.0,
  λ k. rw sub-add-eq (goes_on k _ _ _ (c.loop.invariant.1 k) (omega arith) _ c.mark_at.ensures _
      (elim c.if-kept.branch [
        | pick-then-kept+else-index-total u ↦ passed _ (cc) u.count_choices-total.ensures (let test = u.if-index-total in omega arith) u.index-is
        | pick-else-kept u ↦ skipped (cc) u.index-is
      ]) _ c.after_at-g.ensures),
)

pub pick-returns : goal.pick-returns
pick-returns t c =
    picks-from c.loop.invariant.0 (record { beyond = beyond_none _ _; writes = λ k. goes_none k _ _ _ (c.loop.invariant.1 k) (omega arith) })
