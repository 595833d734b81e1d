-- The cycle of `put_description`, `put_disjunctions`, `put_one` and `put_alternatives` meets its contracts: each step goes on to the
-- whole, and the depth falls.
-- Assumes nothing.
use Prim.Native.Nat.{ℕ}
use native.Mathlib.Omega.{arith}
use native.Mathlib.Nat.{sub-zero, sub-add-eq}
use mathlib.Core.Path.{◌≡◌}
use mathlib.Core.Logic.{◌⊎◌, inl, inr, ⊎_elim}
use Rattle.marks.specs.declared.tally.Remnant.TheVariants.{Nothing, Several}
use Rattle.showing.proofs.Describing.{graph_end, asks_later, later_few, later_long, describes}
use Rattle.showing.proofs.Disjoining as disjoining
use Rattle.showing.proofs.Disjoining.{go_reads, go_start, go_done, go_small, go_same, go_here, go_deep, go_asks, go_few, go_on}
use Rattle.showing.proofs.Varying.{vary_counts, vary_small, vary_inner, vary_one, vary_room, vary_offers, vary_several}
use Rattle.showing.proofs.Offering as offering
use Rattle.showing.proofs.Offering.{Turn, skipped, taken, offer_start, offer_done, offer_same, offer_long, offer_here, offer_asks}
use Rattle.showing.proofs.Offering.{turn_inside, turn_on}
use Rattle.showing.proofs.put.+put_alternatives_put_description_put_disjunctions_put_one.{}
use Rattle.showing.proofs.put.+put_alternatives_put_description_put_disjunctions_put_one.Goals as goal
use Rattle.showing.proofs.put.+put_alternatives_put_description_put_disjunctions_put_one.Goals.{put_alternatives-then-kept, put_alternatives-else-kept, put_one-in-Nothing, put_one-in-Several}

pub put_alternatives-loop-init : goal.put_alternatives-loop-init
put_alternatives-loop-init t c = λ d. rw sub-zero (offer_start _ _ _ _ _ _ d)

pub put_alternatives-mark_at-x-requires : goal.put_alternatives-mark_at-x-requires
put_alternatives-mark_at-x-requires t c = let v = c.loop.invariant c.requires in
    let old : _ × _ = offer_here _ _ _ _ _ _ c.requires _ _ _ _ v (omega arith) in record { p_bound = old.0.0; p_bound_2 = old.1 }

pub put_alternatives-kept-requires : goal.put_alternatives-kept-requires
put_alternatives-kept-requires t c = c.mark_at-x.ensures.1

pub put_alternatives-put_description-out-requires : goal.put_alternatives-put_description-out-requires
put_alternatives-put_description-out-requires t c = let v = c.loop.invariant c.requires in (
  omega (arith, c.decreases),
  offer_asks _ _ _ _ _ _ c.requires _ _ _ _ v (omega arith) _ c.mark_at-x.ensures (cc),
)

pub put_alternatives-after_at-at-requires : goal.put_alternatives-after_at-at-requires
put_alternatives-after_at-at-requires t c =
    let turned : Turn c.args.n.count
    c.loop.w c.loop.at
    c.mark_at-x.result c.args.left
    c.loop.out c.if-kept.out c.if-kept.w = elim c.if-kept.branch [
      | put_alternatives-then-kept u ↦ taken _ _ (cc) u.put_description-out.ensures u.w-is u.out-is
      | put_alternatives-else-kept u ↦ skipped (cc) u.w-is u.out-is
    ] in let v = c.loop.invariant c.requires in
    let old : _ × _ = turn_inside _ _ _ _ _ _ c.requires _ _ _ _ v (omega arith) _ c.mark_at-x.ensures _ _ (turned) in record { p_bound = old.0.0; p_bound_2 = old.1 }

pub put_alternatives-loop-preserved : goal.put_alternatives-loop-preserved
put_alternatives-loop-preserved t c =
    let turned : Turn c.args.n.count
    c.loop.w c.loop.at
    c.mark_at-x.result c.args.left
    c.loop.out c.if-kept.out c.if-kept.w = elim c.if-kept.branch [
      | put_alternatives-then-kept u ↦ taken _ _ (cc) u.put_description-out.ensures u.w-is u.out-is
      | put_alternatives-else-kept u ↦ skipped (cc) u.w-is u.out-is
    ] in λ d. rw sub-add-eq (turn_on _ _ _ _ _ _ d _ _ _ _ (c.loop.invariant d) (omega arith) _
    c.mark_at-x.ensures _ _ (turned) _ c.after_at-at.ensures)

pub put_alternatives-returns : goal.put_alternatives-returns
put_alternatives-returns t c = λ d. offer_done _ _ _ _ _ _ d _ _ _ _ (c.loop.invariant d) (omega arith)

pub put_description-put_graph-e-requires : goal.put_description-put_graph-e-requires
put_description-put_graph-e-requires t c = c.requires

pub put_description-overflow_add-e : goal.put_description-overflow_add-e
put_description-overflow_add-e t c = let h =
    graph_end _ _ _ _ _ _ _ c.put_graph-e.ensures c.requires in
    omega arith

pub put_description-put_disjunctions-rest-requires : goal.put_description-put_disjunctions-rest-requires
put_description-put_disjunctions-rest-requires t c = (
  omega (arith, c.decreases),
  asks_later _ _ _ _ _ _ _ c.put_graph-e.ensures c.requires,
)

pub put_description-overflow_cast-w : goal.put_description-overflow_cast-w
put_description-overflow_cast-w t c = let h =
    later_few _ _ _ _ _ _ _ c.put_graph-e.ensures
    c.requires _ _ _
    c.put_disjunctions-rest.ensures in omega arith

pub put_description-overflow_add-w : goal.put_description-overflow_add-w
put_description-overflow_add-w t c = let h =
    graph_end _ _ _ _ _ _ _ c.put_graph-e.ensures
    c.requires in omega arith

pub put_description-offset_bounds-w-e : goal.put_description-offset_bounds-w-e
put_description-offset_bounds-w-e t c = let h =
    graph_end _ _ _ _ _ _ _ c.put_graph-e.ensures
    c.requires in omega arith

pub put_description-bounds-w-e : goal.put_description-bounds-w-e
put_description-bounds-w-e t c = let h =
    later_long _ _ _ _ _ _ _ c.put_graph-e.ensures
    c.requires _ _ _
    c.put_disjunctions-rest.ensures in omega arith

pub put_description-returns : goal.put_description-returns
put_description-returns t c = describes _ _ _ _ _ _ _ c.put_graph-e.ensures _ _ _
    c.put_disjunctions-rest.ensures

pub put_disjunctions-tail_at-e-requires : goal.put_disjunctions-tail_at-e-requires
put_disjunctions-tail_at-e-requires t c = (go_reads _ _ _ _ _ c.requires).0

pub put_disjunctions-disjunctions_at-more-requires : goal.put_disjunctions-disjunctions_at-more-requires
put_disjunctions-disjunctions_at-more-requires t c = let h = (go_reads _ _ _ _ _ c.requires).1 in
    omega arith

pub put_disjunctions-overflow_add-at : goal.put_disjunctions-overflow_add-at
put_disjunctions-overflow_add-at t c = let h = (go_reads _ _ _ _ _ c.requires).1 in omega arith

pub put_disjunctions-loop-init : goal.put_disjunctions-loop-init
put_disjunctions-loop-init t c = λ d. rw sub-zero (go_start _ _ _ _ _ d _ _ c.tail_at-e.ensures c.disjunctions_at-more.ensures)

pub put_disjunctions-alternatives_at-of-requires : goal.put_disjunctions-alternatives_at-of-requires
put_disjunctions-alternatives_at-of-requires t c = let v = c.loop.invariant c.requires in go_here _ _ _ _ _ c.requires _ _ _ _ _ v (omega arith)

pub put_disjunctions-overflow_add-at-in-loop : goal.put_disjunctions-overflow_add-at-in-loop
put_disjunctions-overflow_add-at-in-loop t c = let v = c.loop.invariant c.requires in let h = go_here _ _ _ _ _ c.requires _ _ _ _ _ v (omega arith) in omega arith

pub put_disjunctions-overflow_sub-left : goal.put_disjunctions-overflow_sub-left
put_disjunctions-overflow_sub-left t c = let v = c.loop.invariant c.requires in let h = go_deep _ _ _ _ _ c.requires _ _ _ _ _ v (omega arith) in omega arith

pub put_disjunctions-put_one-one-requires : goal.put_disjunctions-put_one-one-requires
put_disjunctions-put_one-one-requires t c = let v = c.loop.invariant c.requires in (
  let h = go_deep _ _ _ _ _ c.requires _ _ _ _ _ v (omega arith) in
      omega (arith, c.decreases),
  go_asks _ _ _ _ _ c.requires _ _ _ _ _ v (omega arith) _ c.alternatives_at-of.ensures,
)

pub put_disjunctions-overflow_add-count : goal.put_disjunctions-overflow_add-count
put_disjunctions-overflow_add-count t c = let v = c.loop.invariant c.requires in
    let a = (go_small _ _ _ _ _ c.requires _ _ _ _ _ v).0 in
    let b = go_few _ _ _ _ _ c.requires _ _ _ _ _ v (omega arith) _ c.alternatives_at-of.ensures _ _ _ _
    c.put_one-one.ensures in omega arith

pub put_disjunctions-loop-preserved : goal.put_disjunctions-loop-preserved
put_disjunctions-loop-preserved t c = λ d. rw sub-add-eq (go_on _ _ _ _ _ d _ _ _ _ _ (c.loop.invariant d) (omega arith) _
    c.alternatives_at-of.ensures _ _ _ _ c.put_one-one.ensures)

pub put_disjunctions-returns : goal.put_disjunctions-returns
put_disjunctions-returns t c = λ d. go_done _ _ _ _ _ d _ _ _ _ _ (c.loop.invariant d) (omega arith)

pub put_one-count_kept-tally-requires : goal.put_one-count_kept-tally-requires
put_one-count_kept-tally-requires t c = vary_counts _ _ _ _ _ _ c.requires

pub put_one-put_disjunctions-inner-requires : goal.put_one-put_disjunctions-inner-requires
put_one-put_disjunctions-inner-requires t c = (
  omega (arith, c.decreases),
  vary_inner _ _ _ _ _ _ c.requires _ _ c.count_kept-tally.ensures _ c.in-One.is,
)

pub put_one-returns-in-One : goal.put_one-returns-in-One
put_one-returns-in-One t c = λ d. vary_one _ _ _ _ _ _ d _ _ c.count_kept-tally.ensures _
    c.in-One.is _ _ _ c.put_disjunctions-inner.ensures

pub put_one-overflow_cast-w : goal.put_one-overflow_cast-w
put_one-overflow_cast-w t c =
    let many : ((c.count_kept-tally.result.remnant ≡ Nothing) × (c.match-which.many ≡ 0))
    ⊎ ((x : ℕ) × (c.count_kept-tally.result.remnant ≡ Several x) × (c.match-which.many ≡ x)) = elim c.match-which.branch [
      | put_one-in-Nothing u ↦ inl (u.in-Nothing.is, u.many-is)
      | put_one-in-Several u ↦ inr (u.in-Several.several, u.in-Several.is, u.many-is)
    ] in let h = vary_small _ _ _ _ _ _ c.requires _ _
    c.count_kept-tally.ensures _ (many) in
    omega arith

pub put_one-overflow_add-w : goal.put_one-overflow_add-w
put_one-overflow_add-w t c =
    let many : ((c.count_kept-tally.result.remnant ≡ Nothing) × (c.match-which.many ≡ 0))
    ⊎ ((x : ℕ) × (c.count_kept-tally.result.remnant ≡ Several x) × (c.match-which.many ≡ x)) = elim c.match-which.branch [
      | put_one-in-Nothing u ↦ inl (u.in-Nothing.is, u.many-is)
      | put_one-in-Several u ↦ inr (u.in-Several.several, u.in-Several.is, u.many-is)
    ] in let h = (vary_room _ _ _ _ _ _ c.requires _ _
    c.count_kept-tally.ensures _ (many)).0 in omega arith

pub put_one-offset_bounds-w-o : goal.put_one-offset_bounds-w-o
put_one-offset_bounds-w-o t c =
    let many : ((c.count_kept-tally.result.remnant ≡ Nothing) × (c.match-which.many ≡ 0))
    ⊎ ((x : ℕ) × (c.count_kept-tally.result.remnant ≡ Several x) × (c.match-which.many ≡ x)) = elim c.match-which.branch [
      | put_one-in-Nothing u ↦ inl (u.in-Nothing.is, u.many-is)
      | put_one-in-Several u ↦ inr (u.in-Several.several, u.in-Several.is, u.many-is)
    ] in let h = (vary_room _ _ _ _ _ _ c.requires _ _
    c.count_kept-tally.ensures _ (many)).0 in omega arith

pub put_one-bounds-w-o : goal.put_one-bounds-w-o
put_one-bounds-w-o t c =
    let many : ((c.count_kept-tally.result.remnant ≡ Nothing) × (c.match-which.many ≡ 0))
    ⊎ ((x : ℕ) × (c.count_kept-tally.result.remnant ≡ Several x) × (c.match-which.many ≡ x)) = elim c.match-which.branch [
      | put_one-in-Nothing u ↦ inl (u.in-Nothing.is, u.many-is)
      | put_one-in-Several u ↦ inr (u.in-Several.several, u.in-Several.is, u.many-is)
    ] in let h =
    (vary_room _ _ _ _ _ _ c.requires _ _ c.count_kept-tally.ensures _
    (many)).1 in
    omega arith

pub put_one-overflow_add-o : goal.put_one-overflow_add-o
put_one-overflow_add-o t c =
    let many : ((c.count_kept-tally.result.remnant ≡ Nothing) × (c.match-which.many ≡ 0))
    ⊎ ((x : ℕ) × (c.count_kept-tally.result.remnant ≡ Several x) × (c.match-which.many ≡ x)) = elim c.match-which.branch [
      | put_one-in-Nothing u ↦ inl (u.in-Nothing.is, u.many-is)
      | put_one-in-Several u ↦ inr (u.in-Several.several, u.in-Several.is, u.many-is)
    ] in let h =
    (vary_room _ _ _ _ _ _ c.requires _ _ c.count_kept-tally.ensures _
    (many)).0 in omega arith

pub put_one-put_alternatives-at-requires : goal.put_one-put_alternatives-at-requires
put_one-put_alternatives-at-requires t c =
    let many : ((c.count_kept-tally.result.remnant ≡ Nothing) × (c.match-which.many ≡ 0))
    ⊎ ((x : ℕ) × (c.count_kept-tally.result.remnant ≡ Several x) × (c.match-which.many ≡ x)) = elim c.match-which.branch [
      | put_one-in-Nothing u ↦ inl (u.in-Nothing.is, u.many-is)
      | put_one-in-Several u ↦ inr (u.in-Several.several, u.in-Several.is, u.many-is)
    ] in (
      omega (arith, c.decreases),
      vary_offers _ _ _ _ _ _ c.requires _ _ c.count_kept-tally.ensures
          _ (many),
    )

pub put_one-returns : goal.put_one-returns
put_one-returns t c =
    let many : ((c.count_kept-tally.result.remnant ≡ Nothing) × (c.match-which.many ≡ 0))
    ⊎ ((x : ℕ) × (c.count_kept-tally.result.remnant ≡ Several x) × (c.match-which.many ≡ x)) = elim c.match-which.branch [
      | put_one-in-Nothing u ↦ inl (u.in-Nothing.is, u.many-is)
      | put_one-in-Several u ↦ inr (u.in-Several.several, u.in-Several.is, u.many-is)
    ] in λ d. vary_several _ _ _ _ _ _ d _ _ c.count_kept-tally.ensures _
    (many) _ _ c.put_alternatives-at.ensures
