-- The cycle of `choose`, `resume` and `take` meets its contracts: each step goes on to the whole, and the position of what is left rises.
-- Assumes nothing.
use native.Mathlib.Omega.{arith}
use native.Mathlib.Nat.{sub-zero, sub-add-eq}
use mathlib.Core.Path.{refl, ◌∙◌}
use mathlib.Core.Logic.{⊎_elim}
use Rattle.search.proofs.Finding.{finds_small}
use Rattle.search.proofs.Taking.{asks_enter, takes_clash, take_opens, take_asks, take_falls, take_back, take_notes, takes_found}
use Rattle.search.proofs.Foreseeing.{takes_none, alone_notes, takes_one}
use Rattle.search.proofs.Choosing.{Turn, skipped, took, choose_moved, choose_start, choose_done, choose_small, choose_here}
use Rattle.search.proofs.Choosing.{choose_asks, turn_moved, turn_on}
use Rattle.search.proofs.Resuming.{resumes_leaf, resume_here, resume_reach, resume_some, resume_counts, resume_room, resumes_none}
use Rattle.search.proofs.Resuming.{one_opens, one_asks, one_falls, one_notes, resumes_one, several_asks, resumes_several}
use Rattle.search.proofs.search.+choose_resume_take.Goals as goal
use Rattle.search.proofs.search.+choose_resume_take.Goals.{choose-then-kept, choose-else-kept}

pub choose-loop-init : goal.choose-loop-init
choose-loop-init t c = (choose_moved _ _ _ _ _ _ c.requires, λ d. rw sub-zero (choose_start _ _ _ _ _ _ d))

pub choose-mark_at-x-requires : goal.choose-mark_at-x-requires
choose-mark_at-x-requires t c = let old : _ × _ = choose_here _ _ _ _ _ _ c.requires _ _ _ _ c.loop.invariant.0 (c.loop.invariant.1 c.requires) (omega arith) in record { p_bound = old.0.0; p_bound_2 = old.1 }

pub choose-after_at-next-requires : goal.choose-after_at-next-requires
choose-after_at-next-requires t c = let old : _ × _ = choose_here _ _ _ _ _ _ c.requires _ _ _ _ c.loop.invariant.0 (c.loop.invariant.1 c.requires) (omega arith) in record { p_bound = old.0.0; p_bound_2 = old.1 }

pub choose-kept-requires : goal.choose-kept-requires
choose-kept-requires t c =
    c.mark_at-x.ensures.1

pub choose-take-found-requires : goal.choose-take-found-requires
choose-take-found-requires t c =
    let on = (c.loop.invariant.1 c.requires).on in (
      omega arith,
      choose_asks _ _ _ _ _ _ c.requires _ _ _ _ c.loop.invariant.0 (c.loop.invariant.1 c.requires) (omega arith) _ c.mark_at-x.ensures (cc),
    )

pub choose-overflow_add-sum : goal.choose-overflow_add-sum
choose-overflow_add-sum t c =
    let x = choose_small _ _ _ _ _ _ c.requires _ _ _ _ (c.loop.invariant.1 c.requires) in
    let y = finds_small _ _ _ _ _ _ _ (c.take-found.ensures.found
    (choose_asks _ _ _ _ _ _ c.requires _ _ _ _ c.loop.invariant.0 (c.loop.invariant.1 c.requires) (omega arith) _ c.mark_at-x.ensures (cc))) in
    omega arith

pub choose-loop-preserved : goal.choose-loop-preserved
choose-loop-preserved t c =
    let turned : Turn c.args.n.count c.args.k c.loop.w c.loop.at
    c.mark_at-x.result c.args.a c.loop.sum c.if-kept.sum c.if-kept.w = elim c.if-kept.branch [
      | choose-then-kept u ↦ took _ _ (cc) u.take-found.ensures u.w-is (u.sum-is ∙ u.capped-sum.ensures)
      | choose-else-kept u ↦ skipped (cc) u.w-is u.sum-is
    ] in (
      turn_moved _ _ _ _ _ _ c.requires _ _ _ _ c.loop.invariant.0 (c.loop.invariant.1 c.requires) (omega arith) _ c.mark_at-x.ensures _ _ (turned),
      λ d. rw sub-add-eq (turn_on _ _ _ _ _ _ d _ _ _ _ c.loop.invariant.0 (c.loop.invariant.1 d) (omega arith) _ c.mark_at-x.ensures _ _ (turned) _ c.after_at-next.ensures),
    )

pub choose-returns : goal.choose-returns
choose-returns t c = record { moved = c.loop.invariant.0; found = λ d. choose_done _ _ _ _ _ _ d _ _ _ _ (c.loop.invariant.1 d) (omega arith) }

pub resume-returns-then-a-eq0 : goal.resume-returns-then-a-eq0
resume-returns-then-a-eq0 t c = resumes_leaf _ _ _ _ c.requires (omega arith)

pub resume-alternatives_at-count-requires : goal.resume-alternatives_at-count-requires
resume-alternatives_at-count-requires t c = (resume_here _ _ _ _ c.if-a-eq0.false c.requires).0

pub resume-overflow_add-at : goal.resume-overflow_add-at
resume-overflow_add-at t c = let h =
    (resume_here _ _ _ _ c.if-a-eq0.false c.requires).0 in omega arith

pub resume-count_kept-tally-requires : goal.resume-count_kept-tally-requires
resume-count_kept-tally-requires t c =
    resume_counts _ _ _ _ c.if-a-eq0.false _ c.alternatives_at-count.ensures
    c.requires

pub resume-after-later-requires : goal.resume-after-later-requires
resume-after-later-requires t c =
    (resume_some _ _ _ _ c.if-a-eq0.false
    c.requires).0

pub resume-overflow_sub-more : goal.resume-overflow_sub-more
resume-overflow_sub-more t c = (resume_some _ _ _ _ c.if-a-eq0.false
    c.requires).1

pub resume-before-rest-requires : goal.resume-before-rest-requires
resume-before-rest-requires t c =
    resume_room _ _ _ _ c.if-a-eq0.false _
    c.alternatives_at-count.ensures _ _
    c.count_kept-tally.ensures _ c.after-later.ensures
    c.requires

pub resume-returns-in-Nothing : goal.resume-returns-in-Nothing
resume-returns-in-Nothing t c = resumes_none _ _ _ _ c.if-a-eq0.false _
    c.alternatives_at-count.ensures _ _ c.count_kept-tally.ensures
    c.requires c.in-Nothing.is

pub resume-descend-inner-requires : goal.resume-descend-inner-requires
resume-descend-inner-requires t c =
    let old : _ × (_ × _) = one_opens _ _ _ _ c.if-a-eq0.false _
    c.alternatives_at-count.ensures _ _
    c.count_kept-tally.ensures _ c.after-later.ensures _
    c.before-rest.ensures _ c.in-One.is
    c.requires in record { g_bound = old.0.0; g_bound_2 = old.1.0; fact = old.1.1 }

pub resume-resume-found-requires : goal.resume-resume-found-requires
resume-resume-found-requires t c = (
  let h = one_falls _ _ _ _ c.if-a-eq0.false
      _ c.alternatives_at-count.ensures _ _
      c.count_kept-tally.ensures _
      c.after-later.ensures _ c.before-rest.ensures _
      c.in-One.is _ c.descend-inner.ensures
      c.requires in
      let b = (resume_here _ _ _ _ c.if-a-eq0.false c.requires).0 in let r = resume_reach _ _ _ _ c.if-a-eq0.false c.requires in omega arith,
  one_asks _ _ _ _ c.if-a-eq0.false
      _ c.alternatives_at-count.ensures _ _
      c.count_kept-tally.ensures _
      c.after-later.ensures _ c.before-rest.ensures _
      c.in-One.is _ c.descend-inner.ensures
      c.requires,
)

pub resume-note-requires : goal.resume-note-requires
resume-note-requires t c = one_notes _ _ _ _ c.if-a-eq0.false _
    c.alternatives_at-count.ensures _ _ c.count_kept-tally.ensures _
    c.after-later.ensures _
    c.before-rest.ensures _
    c.in-One.is _
    c.descend-inner.ensures _ _ c.resume-found.ensures
    c.requires

pub resume-returns-in-One : goal.resume-returns-in-One
resume-returns-in-One t c = resumes_one _ _ _ _ c.if-a-eq0.false _
    c.alternatives_at-count.ensures _ _ c.count_kept-tally.ensures _
    c.after-later.ensures _
    c.before-rest.ensures _
    c.in-One.is _
    c.descend-inner.ensures _ _
    c.resume-found.ensures
    c.requires _ c.note.ensures

pub resume-after-later-requires-in-Several : goal.resume-after-later-requires-in-Several
resume-after-later-requires-in-Several t c =
    (resume_some _ _ _ _ c.if-a-eq0.false
    c.requires).0

pub resume-overflow_sub-more-in-Several : goal.resume-overflow_sub-more-in-Several
resume-overflow_sub-more-in-Several t c = (resume_some _ _ _ _ c.if-a-eq0.false
    c.requires).1

pub resume-before-rest-requires-in-Several : goal.resume-before-rest-requires-in-Several
resume-before-rest-requires-in-Several t c =
    resume_room _ _ _ _ c.if-a-eq0.false _
    c.alternatives_at-count.ensures _ _ c.count_kept-tally.ensures _
    c.after-later-in-Several.ensures c.requires

pub resume-overflow_add-at-in-Several : goal.resume-overflow_add-at-in-Several
resume-overflow_add-at-in-Several t c = let h =
    (resume_here _ _ _ _ c.if-a-eq0.false
    c.requires).0 in
    omega arith

pub resume-choose-requires : goal.resume-choose-requires
resume-choose-requires t c = (
  let b = (resume_here _ _ _ _ c.if-a-eq0.false
      c.requires).0 in
      let r = resume_reach _ _ _ _ c.if-a-eq0.false
      c.requires in
      omega arith,
  several_asks _ _ _ _ c.if-a-eq0.false
      _ c.alternatives_at-count.ensures _ _
      c.count_kept-tally.ensures _ c.after-later-in-Several.ensures _
      c.before-rest-in-Several.ensures _ c.in-Several.is
      c.requires,
)

pub resume-returns-in-Several : goal.resume-returns-in-Several
resume-returns-in-Several t c = resumes_several _ _ _ _ c.if-a-eq0.false _ c.alternatives_at-count.ensures _ _
    c.count_kept-tally.ensures _
    c.after-later-in-Several.ensures _ c.before-rest-in-Several.ensures _
    c.in-Several.is _ _ c.choose.ensures

pub take-foresee-told-requires : goal.take-foresee-told-requires
take-foresee-told-requires t c = record { a = c.args.a; many = refl; taking = c.requires }

pub take-note-requires : goal.take-note-requires
take-note-requires t c = alone_notes _ _ _ _ _ c.requires

pub take-returns-in-Agrees : goal.take-returns-in-Agrees
take-returns-in-Agrees t c = takes_one _ _ _ _ _ c.requires _
    c.foresee-told.ensures c.in-Agrees.is _
    c.note.ensures

pub take-returns-in-Clashes : goal.take-returns-in-Clashes
take-returns-in-Clashes t c = takes_none _ _ _ _ _ c.requires _ c.foresee-told.ensures
    c.in-Clashes.is

pub take-enter-requires : goal.take-enter-requires
take-enter-requires t c = asks_enter _ _ _ _ _ c.requires

pub take-returns-in_default : goal.take-returns-in_default
take-returns-in_default t c = takes_clash _ _ _ _ _ _ _ c.enter.ensures
    c.requires c.in_default.is

pub take-descend-inner-requires : goal.take-descend-inner-requires
take-descend-inner-requires t c =
    let old : _ × (_ × _) = take_opens _ _ _ _ _ _ _ c.enter.ensures
    c.requires _
    c.in-Some.is in record { g_bound = old.0.0; g_bound_2 = old.1.0; fact = old.1.1 }

pub take-resume-found-requires : goal.take-resume-found-requires
take-resume-found-requires t c = (
  let h =
      take_falls _ _ _ _ _ _ _ c.enter.ensures
      c.requires _
      c.in-Some.is _ c.descend-inner.ensures in
      omega arith,
  take_asks _ _ _ _ _ _ _ c.enter.ensures
      c.requires _
      c.in-Some.is _ c.descend-inner.ensures,
)

pub take-back-requires : goal.take-back-requires
take-back-requires t c = take_back _ _ _ _ _ _ _
    c.enter.ensures
    c.requires _ c.in-Some.is _
    c.descend-inner.ensures _ _ c.resume-found.ensures

pub take-note-requires-2 : goal.take-note-requires-2
take-note-requires-2 t c = take_notes _ _ _ _ _ _ _
    c.enter.ensures c.requires _
    c.in-Some.is _
    c.descend-inner.ensures _ _
    c.resume-found.ensures _ c.back.ensures

pub take-returns : goal.take-returns
take-returns t c = takes_found _ _ _ _ _ _ _
    c.enter.ensures
    c.requires _
    c.in-Some.is _ c.descend-inner.ensures _ _
    c.resume-found.ensures _
    c.back.ensures _ c.note-2.ensures
