-- The cycle of `narrow`, `narrow_one`, `sift` and `try_one` meets its contracts: each step goes on to the whole, and the depth falls.
-- Assumes nothing.
use native.Mathlib.Omega.{arith}
use native.Mathlib.Nat.{sub-zero, sub-add-eq}
use mathlib.Core.Path.{sym, ap, ◌∙◌}
use mathlib.Core.Logic.{⊎_elim}
use Rattle.marks.specs.Positions.{disjunctions_at}
use Rattle.classes.proofs.Laws.{since_trans}
use Rattle.sieving.proofs.Keeping.{blank, sieved_since}
use Rattle.entering.proofs.Entering.{asks_own}
use Rattle.quick.proofs.Trying.{tries_clash, asks_narrow, asks_back, tries_fails, tries_stands}
use Rattle.entering.proofs.Within.{tried_starts}
use Rattle.quick.proofs.Sifting.{fewer_none, fewer_trans, fewer_small, Turn, skipped, stood, failed, moved_none, sift_start}
use Rattle.quick.proofs.Sifting.{sift_here, sift_asks, turn_moved, turn_inside, turn_fewer, turn_on, sift_done}
use Rattle.quick.proofs.Choosing.{chosen, chooses_none, asks_alone, chooses_one, asks_sift, asks_settle, chooses_still}
use Rattle.quick.proofs.Choosing.{chooses_fails, chooses_stands}
use Rattle.quick.proofs.Narrowing.{narrow_starts, narrow_rooted, moved_start, narrow_begin, narrow_done, narrow_here}
use Rattle.quick.proofs.Narrowing.{narrow_deep, asks_one, moved_on, rooted_after, sieved_after, narrow_on, moved_back, fewer_back}
use Rattle.quick.proofs.Narrowing.{narrow_fails, narrows_stands, narrows_fails, narrows_len}
use Rattle.quick.proofs.narrow.+narrow_narrow_one_sift_try_one.Goals as goal
use Rattle.quick.proofs.narrow.+narrow_narrow_one_sift_try_one.Goals.{sift-then-kept+in-Some, sift-then-kept+in_default, sift-else-kept}

pub narrow-tail_at-e-requires : goal.narrow-tail_at-e-requires
narrow-tail_at-e-requires t c = (narrow_starts _ _ _ _ _ c.requires).0

pub narrow-disjunctions_at-more-requires : goal.narrow-disjunctions_at-more-requires
narrow-disjunctions_at-more-requires t c = let h = (narrow_starts _ _ _ _ _ c.requires).1 in omega arith

pub narrow-returns-then-more-eq0 : goal.narrow-returns-then-more-eq0
narrow-returns-then-more-eq0 t c = narrows_stands _ _ _ _ _ _ _ _ (moved_start _ _ _ _ _ c.requires) (fewer_none _)
    (λ d. narrow_done _ _ _ _ _ d _ _ _ _ (moved_start _ _ _ _ _ d)
    (narrow_begin _ _ _ _ _ d _ _ c.tail_at-e.ensures c.disjunctions_at-more.ensures) (omega arith))

pub narrow-gather-requires : goal.narrow-gather-requires
narrow-gather-requires t c = let rooted = narrow_rooted _ _ _ _ _ c.requires in
    record {
      n_nonzero = (rooted.0, omega arith);
      labelled = rooted.1;
      blank = blank 256;
    }

pub narrow-overflow_add-at : goal.narrow-overflow_add-at
narrow-overflow_add-at t c = let h = (narrow_starts _ _ _ _ _ c.requires).1 in
    omega arith

pub narrow-loop-init : goal.narrow-loop-init
narrow-loop-init t c = (
  moved_start _ _ _ _ _ c.requires,
  fewer_none _,
  λ d. rw sub-zero (narrow_begin _ _ _ _ _ d _ _ c.tail_at-e.ensures
      c.disjunctions_at-more.ensures),
  c.gather.auto.t,
  c.gather.ensures,
)

pub narrow-alternatives_at-count-requires : goal.narrow-alternatives_at-count-requires
narrow-alternatives_at-count-requires t c = narrow_here _ _ _ _ _ c.requires _ _ _ _ c.loop.invariant.0 (c.loop.invariant.2 c.requires) (omega arith)

pub narrow-overflow_add-at-in-loop : goal.narrow-overflow_add-at-in-loop
narrow-overflow_add-at-in-loop t c = let h = narrow_here _ _ _ _ _ c.requires _ _ _ _ c.loop.invariant.0 (c.loop.invariant.2 c.requires) (omega arith) in omega arith

pub narrow-count_kept-tally-requires : goal.narrow-count_kept-tally-requires
narrow-count_kept-tally-requires t c = chosen _ _ _ _ _ _ (asks_one _ _ _ _ _ c.requires _ _ _ _ c.loop.invariant.0 (c.loop.invariant.2 c.requires) (omega arith) _ c.alternatives_at-count.ensures)

pub narrow-overflow_add-at-in-loop-2 : goal.narrow-overflow_add-at-in-loop-2
narrow-overflow_add-at-in-loop-2 t c = let h = narrow_here _ _ _ _ _ c.requires _ _ _ _ c.loop.invariant.0 (c.loop.invariant.2 c.requires) (omega arith) in
    omega arith

pub narrow-overflow_sub-left : goal.narrow-overflow_sub-left
narrow-overflow_sub-left t c = let h = narrow_deep _ _ _ _ _ c.requires _ _ _ _ c.loop.invariant.0 (c.loop.invariant.2 c.requires) (omega arith) in
    omega arith

pub narrow-slice_bounds-narrow_one-end : goal.narrow-slice_bounds-narrow_one-end
narrow-slice_bounds-narrow_one-end t c = sym c.loop.invariant.3

pub narrow-narrow_one-requires : goal.narrow-narrow_one-requires
narrow-narrow_one-requires t c = (
  let h = narrow_deep _ _ _ _ _ c.requires _ _ _ _ c.loop.invariant.0 (c.loop.invariant.2 c.requires) (omega arith) in
      omega (
        arith,
        c.decreases,
      ),
  (
    asks_one _ _ _ _ _ c.requires _ _ _ _ c.loop.invariant.0 (c.loop.invariant.2 c.requires) (omega arith) _ c.alternatives_at-count.ensures,
    ((_, c.count_kept-tally.ensures), c.loop.invariant.4),
  ),
)

pub narrow-back-requires : goal.narrow-back-requires
narrow-back-requires t c = record {
  w₀ = c.args.w.now;
  since =
      since_trans _ _ _ _ _ _ c.loop.invariant.0.since
      (c.narrow_one.ensures.failing c.in_default.is).0.since;
}

pub narrow-returns-in_default : goal.narrow-returns-in_default
narrow-returns-in_default t c = narrows_fails _ _ _ _ _ _
    (moved_back _ _ _ _ _ c.requires _ _ _ _ c.loop.invariant.0 (c.loop.invariant.2 c.requires) (omega arith) _
    c.alternatives_at-count.ensures _
    _ c.narrow_one.ensures
    c.in_default.is _ c.back.ensures)
    (fewer_back _ _ _ _ _ c.requires _ _ _ _ c.loop.invariant.0 (c.loop.invariant.2 c.requires) (omega arith) _
    c.alternatives_at-count.ensures _
    _ c.narrow_one.ensures
    c.in_default.is _ c.back.ensures _ c.loop.invariant.1)
    (λ d. narrow_fails _ _ _ _ _ d _ _ _ _ c.loop.invariant.0 (c.loop.invariant.2 d) (omega arith) _
    c.alternatives_at-count.ensures _
    _ c.narrow_one.ensures
    c.in_default.is _ c.back.ensures)

pub narrow-renew-requires : goal.narrow-renew-requires
narrow-renew-requires t c = let rooted = rooted_after _ _ _ _ _ c.requires _ _ _ _ c.loop.invariant.0 (c.loop.invariant.2 c.requires) (omega arith) _
    c.alternatives_at-count.ensures _ _ c.narrow_one.ensures _
    _ c.in-Some.is in record {
      n_nonzero = (rooted.0, c.loop.invariant.3);
      labelled = rooted.1;
      sieved = sieved_after _ _ _ _ _ c.requires _ _ _ _ c.loop.invariant.0 (c.loop.invariant.2 c.requires) (omega arith) _
          c.alternatives_at-count.ensures _
          _ c.narrow_one.ensures _ _ c.in-Some.is _ c.loop.invariant.4;
    }

pub narrow-overflow_add-drops : goal.narrow-overflow_add-drops
narrow-overflow_add-drops t c = let a = fewer_small _ _ _ c.loop.invariant.1 in
    let b = fewer_small _ _ _ (c.narrow_one.ensures.standing _ _
    c.in-Some.is).1 in omega arith

pub narrow-loop-preserved : goal.narrow-loop-preserved
narrow-loop-preserved t c = (
  moved_on _ _ _ _ _ c.requires _ _ _ _ c.loop.invariant.0 (c.loop.invariant.2 c.requires) (omega arith) _
      c.alternatives_at-count.ensures _ _ c.narrow_one.ensures _ _
      c.in-Some.is,
  fewer_trans _ _ _ _ _ c.loop.invariant.1 (c.narrow_one.ensures.standing _ _
      c.in-Some.is).1,
  λ d. rw sub-add-eq (narrow_on _ _ _ _ _ d _ _ _ _ c.loop.invariant.0 (c.loop.invariant.2 d) (omega arith) _
      c.alternatives_at-count.ensures _ _ c.narrow_one.ensures _ _
      c.in-Some.is _ _
      c.count_kept-tally.ensures),
  c.renew.ensures.0,
  c.renew.ensures.1,
)

pub narrow-returns : goal.narrow-returns
narrow-returns t c = narrows_stands _ _ _ _ _ _ _ _ c.loop.invariant.0 c.loop.invariant.1 (λ d. narrow_done _ _ _ _ _ d _ _ _ _ c.loop.invariant.0 (c.loop.invariant.2 d) (omega arith))

pub narrow_one-returns-in-Nothing : goal.narrow_one-returns-in-Nothing
narrow_one-returns-in-Nothing t c = chooses_none _ _ _ _ _ _ _ _ c.requires.by_index.1
    c.requires.choosing c.in-Nothing.is

pub narrow_one-narrow-requires : goal.narrow_one-narrow-requires
narrow_one-narrow-requires t c = (
  omega (arith, c.decreases),
  asks_alone _ _ _ _ _ _ _ _ c.requires.by_index.1 _ c.in-One.is
      c.requires.choosing,
)

pub narrow_one-returns-in-One : goal.narrow_one-returns-in-One
narrow_one-returns-in-One t c = chooses_one _ _ _ _ _ _ _ _
    c.requires.by_index.1 _
    c.in-One.is _ _ c.narrow.ensures

pub narrow_one-sift-drops-requires : goal.narrow_one-sift-drops-requires
narrow_one-sift-drops-requires t c = (
  omega (arith, c.decreases),
  (
    asks_sift _ _ _ _ _ _ _ _ c.requires.by_index.1 _ c.in-Several.is
        c.requires.choosing,
    c.requires.sieved,
  ),
)

pub narrow_one-returns-then-drops-eq0 : goal.narrow_one-returns-then-drops-eq0
narrow_one-returns-then-drops-eq0 t c = chooses_still _ _ _ _ _ _ _ _
    c.requires.by_index.1 _
    c.in-Several.is
    c.requires.choosing _ _ c.sift-drops.ensures
    (omega arith)

pub narrow_one-settle-requires : goal.narrow_one-settle-requires
narrow_one-settle-requires t c =
    asks_settle _ _ _ _ _ _ _ _ c.requires.by_index.1 _
    c.in-Several.is
    c.requires.choosing _ _
    c.sift-drops.ensures

pub narrow_one-returns-in_err-log : goal.narrow_one-returns-in_err-log
narrow_one-returns-in_err-log t c = rw c.from_residual.ensures (chooses_fails _ _ _ _ _ _ _ _
    c.requires.by_index.1 _ c.in-Several.is
    c.requires.choosing _
    _ c.sift-drops.ensures _ _
    c.settle.ensures c.in_err-log.was)

pub narrow_one-returns : goal.narrow_one-returns
narrow_one-returns t c = chooses_stands _ _ _ _ _ _ _ _
    c.requires.by_index.1 _ c.in-Several.is
    c.requires.choosing _ _ c.sift-drops.ensures _ _
    c.settle.ensures _ c.in_ok-log.was

pub sift-loop-init : goal.sift-loop-init
sift-loop-init t c = (moved_none _ _ _ _ _ _ c.requires.alternating, fewer_none _, λ d. rw sub-zero (sift_start _ _ _ _ _ _ d))

pub sift-mark_at-x-requires : goal.sift-mark_at-x-requires
sift-mark_at-x-requires t c = let old : _ × _ = sift_here _ _ _ _ _ _ c.requires.alternating _ _ _ c.loop.invariant.0 (c.loop.invariant.2 c.requires.alternating) (omega arith) in record { p_bound = old.0.0; p_bound_2 = old.1 }

pub sift-kept-requires : goal.sift-kept-requires
sift-kept-requires t c = c.mark_at-x.ensures.1

pub sift-try_one-requires : goal.sift-try_one-requires
sift-try_one-requires t c = (
  omega (arith, c.decreases),
  (
    sift_asks _ _ _ _ _ _ c.requires.alternating _ _ _ c.loop.invariant.0 (c.loop.invariant.2 c.requires.alternating) (omega arith),
    sieved_since _ _ _ _ _ c.requires.alternating.s.holds.below c.requires.alternating.s.holds.long c.loop.invariant.0.since
        c.requires.sieved,
  ),
)

pub sift-overflow_add-drops : goal.sift-overflow_add-drops
sift-overflow_add-drops t c = let a = fewer_small _ _ _ c.loop.invariant.1 in
    let b = fewer_small _ _ _ (c.try_one.ensures.standing _ _ c.in-Some.is).0 in
    omega arith

pub sift-drop-requires : goal.sift-drop-requires
sift-drop-requires t c = c.mark_at-x.ensures.1

pub sift-overflow_add-drops-in_default : goal.sift-overflow_add-drops-in_default
sift-overflow_add-drops-in_default t c = let a = fewer_small _ _ _ c.loop.invariant.1 in omega arith

pub sift-after_at-at-requires : goal.sift-after_at-at-requires
sift-after_at-at-requires t c =
    let turned : Turn c.args.n.count
    c.args.k
    c.loop.w c.loop.at
    c.mark_at-x.result c.args.left
    c.loop.drops c.if-kept.drops c.if-kept.w = elim c.if-kept.branch [
      | sift-then-kept+in-Some u ↦ stood _ _ _ _ (cc) u.try_one.ensures u.in-Some.is u.w-is u.drops-is
      | sift-then-kept+in_default u ↦ failed _ _ _ (cc) u.try_one.ensures u.in_default.is u.drop.ensures u.w-is u.drops-is
      | sift-else-kept u ↦ skipped (cc) u.w-is u.drops-is
    ] in let old : _ × _ = turn_inside _ _ _ _ _ _ c.requires.alternating _ _ _ c.loop.invariant.0 (c.loop.invariant.2 c.requires.alternating) (omega arith) _ c.mark_at-x.ensures _ _ _
    (turned) in record { p_bound = old.0.0; p_bound_2 = old.1 }

pub sift-loop-preserved : goal.sift-loop-preserved
sift-loop-preserved t c =
    let turned : Turn c.args.n.count
    c.args.k
    c.loop.w c.loop.at
    c.mark_at-x.result c.args.left
    c.loop.drops c.if-kept.drops c.if-kept.w = elim c.if-kept.branch [
      | sift-then-kept+in-Some u ↦ stood _ _ _ _ (cc) u.try_one.ensures u.in-Some.is u.w-is u.drops-is
      | sift-then-kept+in_default u ↦ failed _ _ _ (cc) u.try_one.ensures u.in_default.is u.drop.ensures u.w-is u.drops-is
      | sift-else-kept u ↦ skipped (cc) u.w-is u.drops-is
    ] in (
      turn_moved _ _ _ _ _ _ c.requires.alternating _ _ _ c.loop.invariant.0 (c.loop.invariant.2 c.requires.alternating) (omega arith) _ c.mark_at-x.ensures _ _ _
          (turned),
      turn_fewer _ _ _ _ _ _ c.requires.alternating _ _ _ c.loop.invariant.0 (c.loop.invariant.2 c.requires.alternating) (omega arith) _ c.mark_at-x.ensures _ _ _
          (turned) c.loop.invariant.1,
      λ d. rw sub-add-eq (turn_on _ _ _ _ _ _ d _ _ _ c.loop.invariant.0 (c.loop.invariant.2 d) (omega arith) _ c.mark_at-x.ensures _ _ _
          (turned) _ c.after_at-at.ensures),
    )

pub sift-returns : goal.sift-returns
sift-returns t c = record { moved = c.loop.invariant.0; fewer = c.loop.invariant.1; sifted = λ d. sift_done _ _ _ _ _ _ d _ _ _ (c.loop.invariant.2 d) (omega arith) }

pub try_one-tail_at-e-requires : goal.try_one-tail_at-e-requires
try_one-tail_at-e-requires t c = (tried_starts _ _ _ _ _ c.requires.entering).0

pub try_one-disjunctions_at-more-requires : goal.try_one-disjunctions_at-more-requires
try_one-disjunctions_at-more-requires t c = let h = (tried_starts _ _ _ _ _ c.requires.entering).1 in omega arith

pub try_one-try_bare-requires : goal.try_one-try_bare-requires
try_one-try_bare-requires t c = record {
  pushing = asks_own _ _ _ _ _ c.requires.entering;
  sieved = c.requires.sieved;
}

pub try_one-returns-then-more-eq0 : goal.try_one-returns-then-more-eq0
try_one-returns-then-more-eq0 t c = c.try_bare.ensures.tries _
    c.requires.entering
    (ap (disjunctions_at _) (sym c.tail_at-e.ensures)
    ∙ sym c.disjunctions_at-more.ensures ∙ c.if-more-eq0.true)

pub try_one-enter-requires : goal.try_one-enter-requires
try_one-enter-requires t c = c.requires.entering

pub try_one-returns-in_err-log : goal.try_one-returns-in_err-log
try_one-returns-in_err-log t c = rw c.from_residual.ensures (tries_clash _ _ _ _ _ _ _ c.enter.ensures
    c.requires.entering
    c.in_err-log.was)

pub try_one-narrow-requires : goal.try_one-narrow-requires
try_one-narrow-requires t c = (
  omega (
    arith,
    c.decreases,
  ),
  asks_narrow _ _ _ _ _ _ _ c.enter.ensures
      c.requires.entering
      _ c.in_ok-log.was,
)

pub try_one-back-requires : goal.try_one-back-requires
try_one-back-requires t c =
    asks_back _ _ _ _ _ _ _ c.enter.ensures c.requires.entering _
    c.in_ok-log.was _ _
    c.narrow.ensures _
    (c.narrow.ensures.failing c.in_default.is).0

pub try_one-returns-in_default : goal.try_one-returns-in_default
try_one-returns-in_default t c = tries_fails _ _ _ _ _ _ _
    c.enter.ensures c.requires.entering _
    c.in_ok-log.was _ _
    c.narrow.ensures
    c.in_default.is _ c.back.ensures

pub try_one-back-requires-2 : goal.try_one-back-requires-2
try_one-back-requires-2 t c =
    asks_back _ _ _ _ _ _ _ c.enter.ensures c.requires.entering _
    c.in_ok-log.was _ _
    c.narrow.ensures _
    (c.narrow.ensures.standing _ _ c.in-Some.is).0

pub try_one-returns : goal.try_one-returns
try_one-returns t c = tries_stands _ _ _ _ _ _ _
    c.enter.ensures c.requires.entering _
    c.in_ok-log.was _ _
    c.narrow.ensures _ _
    c.in-Some.is _ c.back-2.ensures
