-- `entering::enter::enter`, which calls itself, meets its contract: what is left to push goes on to the whole, and the depth falls.
-- Assumes nothing.
use Prim.Native.Nat.{ℕ, ◌+◌}
use native.Mathlib.Omega.{arith}
use native.Mathlib.Nat.{sub-zero, sub-add-eq}
use mathlib.Core.Path.{◌≡◌, ◌∙◌}
use mathlib.Core.Logic.{⊎_elim}
use Rattle.classes.proofs.Laws.{since_trans}
use Rattle.entering.specs.Entered.{Entering}
use Rattle.entering.proofs.Entering.{Reached, Walking, one, none, asks_own, starts, walk_start, walk_done, walk_here}
use Rattle.entering.proofs.Entering.{walk_asks, walk_deep, walk_inner, walk_clash, walk_on, reach_own, enters_own, enters_all}
use Rattle.entering.proofs.enter.+enter.Goals as goal
use Rattle.entering.proofs.enter.+enter.Goals.{in-One+in-Some, in_default}

pub push-requires : goal.push-requires
push-requires t c = asks_own _ _ _ _ _ c.requires

pub returns-in_err-log : goal.returns-in_err-log
returns-in_err-log t c = rw c.from_residual.ensures (enters_own _ _ _ _ _ _ _ c.push.ensures c.in_err-log.was)

pub tail_at-e-requires : goal.tail_at-e-requires
tail_at-e-requires t c = let r =
    reach_own _ _ _ _ _ _ _ c.push.ensures c.in_ok-log.was in (starts _ _ _ _ _ c.requires _ _ r).0

pub disjunctions_at-more-requires : goal.disjunctions_at-more-requires
disjunctions_at-more-requires t c = let r =
    reach_own _ _ _ _ _ _ _ c.push.ensures
    c.in_ok-log.was in
    let h = (starts _ _ _ _ _
    c.requires _ _ r).1 in
    omega arith

pub overflow_add-at : goal.overflow_add-at
overflow_add-at t c = let h = (starts _ _ _ _ _ c.requires _ _
    (reach_own _ _ _ _ _ _ _ c.push.ensures c.in_ok-log.was)).1 in omega arith

pub loop-init : goal.loop-init
loop-init t c = λ v e r u. (r, rw sub-zero u)

pub alternatives_at-count-requires : goal.alternatives_at-count-requires
alternatives_at-count-requires t c = let v = c.loop.invariant _ c.requires (reach_own _ _ _ _ _ _ _ c.push.ensures c.in_ok-log.was) (walk_start _ _ _ _ _ c.requires _ _ (reach_own _ _ _ _ _ _ _ c.push.ensures c.in_ok-log.was) _ c.push.ensures c.in_ok-log.was _ _ c.tail_at-e.ensures c.disjunctions_at-more.ensures) in
    walk_here _ _ _ _ _ c.requires _ _ v.0 _ _ v.1 (omega arith)

pub overflow_add-at-in-loop : goal.overflow_add-at-in-loop
overflow_add-at-in-loop t c = let v = c.loop.invariant _ c.requires (reach_own _ _ _ _ _ _ _ c.push.ensures c.in_ok-log.was)
    (walk_start _ _ _ _ _ c.requires _ _ (reach_own _ _ _ _ _ _ _ c.push.ensures c.in_ok-log.was) _ c.push.ensures c.in_ok-log.was _ _ c.tail_at-e.ensures c.disjunctions_at-more.ensures) in let h = walk_here _ _ _ _ _ c.requires _ _ v.0 _ _ v.1 (omega arith) in
    omega arith

pub count_kept-tally-requires : goal.count_kept-tally-requires
count_kept-tally-requires t c = let v = c.loop.invariant _ c.requires (reach_own _ _ _ _ _ _ _ c.push.ensures c.in_ok-log.was)
    (walk_start _ _ _ _ _ c.requires _ _ (reach_own _ _ _ _ _ _ _ c.push.ensures c.in_ok-log.was) _ c.push.ensures c.in_ok-log.was _ _ c.tail_at-e.ensures c.disjunctions_at-more.ensures) in
    walk_asks _ _ _ _ _ c.requires _ _ v.0 _ _ v.1 (omega arith) _ c.alternatives_at-count.ensures

pub overflow_sub-left : goal.overflow_sub-left
overflow_sub-left t c = let v = c.loop.invariant _ c.requires
    (reach_own _ _ _ _ _ _ _ c.push.ensures c.in_ok-log.was)
    (walk_start _ _ _ _ _ c.requires _ _ (reach_own _ _ _ _ _ _ _ c.push.ensures c.in_ok-log.was) _ c.push.ensures c.in_ok-log.was _ _ c.tail_at-e.ensures c.disjunctions_at-more.ensures) in
    let h = walk_deep _ _ _ _ _ c.requires _ _ v.0 _ _ v.1 (omega arith) in omega arith

pub enter-requires : goal.enter-requires
enter-requires t c = let v = c.loop.invariant _ c.requires
    (reach_own _ _ _ _ _ _ _ c.push.ensures c.in_ok-log.was)
    (walk_start _ _ _ _ _ c.requires _ _ (reach_own _ _ _ _ _ _ _ c.push.ensures c.in_ok-log.was) _ c.push.ensures c.in_ok-log.was _ _ c.tail_at-e.ensures c.disjunctions_at-more.ensures) in (
      omega (arith, c.decreases, walk_deep _ _ _ _ _ c.requires _ _ v.0 _ _ v.1 (omega arith)),
      walk_inner _ _ _ _ _ c.requires _ _ v.0 _ _ v.1 (omega arith) _
          c.alternatives_at-count.ensures _ _
          c.count_kept-tally.ensures _ c.in-One.is,
    )

pub back-requires : goal.back-requires
back-requires t c = let v = c.loop.invariant _ c.requires (reach_own _ _ _ _ _ _ _ c.push.ensures c.in_ok-log.was) (walk_start _ _ _ _ _ c.requires _ _ (reach_own _ _ _ _ _ _ _ c.push.ensures c.in_ok-log.was) _ c.push.ensures c.in_ok-log.was _ _ c.tail_at-e.ensures c.disjunctions_at-more.ensures) in record {
  w₀ = c.args.w.now;
  since =
      since_trans _ _ _ _ _ _ v.0.since (c.enter.ensures.clashed c.in_default-enter.is).0;
}

pub returns-in_default-enter : goal.returns-in_default-enter
returns-in_default-enter t c = let p = c.requires
    in
    let v = c.loop.invariant _ p (reach_own _ _ _ _ _ _ _ c.push.ensures c.in_ok-log.was)
    (walk_start _ _ _ _ _ p _ _ (reach_own _ _ _ _ _ _ _ c.push.ensures c.in_ok-log.was) _ c.push.ensures c.in_ok-log.was _ _ c.tail_at-e.ensures c.disjunctions_at-more.ensures) in let s = since_trans _ _ _ _ _ _ v.0.since (c.enter.ensures.clashed c.in_default-enter.is).0 in
    record {
      len = c.back.ensures.len ∙ c.enter.ensures.len ∙ v.0.len;
      rest = λ j h. c.back.ensures.rest j h ∙ c.enter.ensures.rest j h
          ∙ v.0.rest j h;
      pushed = λ i y. let x : ◌≡◌ {A = ℕ} 0 1 = cc in
          absurd (omega arith);
      clashed =
          λ y. (
            c.back.ensures.since _ s,
            λ e. let z =
                c.loop.invariant _ e (reach_own _ _ _ _ _ _ _ c.push.ensures c.in_ok-log.was)
                (walk_start _ _ _ _ _ e _ _ (reach_own _ _ _ _ _ _ _ c.push.ensures c.in_ok-log.was) _ c.push.ensures c.in_ok-log.was _ _ c.tail_at-e.ensures c.disjunctions_at-more.ensures) in (
                  walk_clash _ _ _ _ _ e _ _ z.0 _ _ z.1 (omega arith) _
                      c.alternatives_at-count.ensures _ _ c.count_kept-tally.ensures _
                      c.in-One.is _ _ c.enter.ensures
                      c.in_default-enter.is,
                  c.back.ensures.holds _ _ _ e.s.holds s,
                ),
          );
    }

pub loop-preserved : goal.loop-preserved
loop-preserved t c = λ w e r u. let v = c.loop.invariant w e r u in
    rw sub-add-eq (walk_on _ _ _ _ _ e _ _ v.0 _ _ v.1 (omega arith) _ c.alternatives_at-count.ensures _ _
    c.count_kept-tally.ensures _ _ (elim c.match-tally.branch [
      | in-One+in-Some x ↦ one _ _ _ _ x.in-One.is x.enter.ensures x.in-Some.is x.w-is x.log-is
      | in_default x ↦ none x.in_default.not-One x.w-is x.log-is
    ]))

pub returns : goal.returns
returns t c = let v = c.loop.invariant _ c.requires (reach_own _ _ _ _ _ _ _ c.push.ensures c.in_ok-log.was) (walk_start _ _ _ _ _ c.requires _ _ (reach_own _ _ _ _ _ _ _ c.push.ensures c.in_ok-log.was) _ c.push.ensures c.in_ok-log.was _ _ c.tail_at-e.ensures c.disjunctions_at-more.ensures) in
    enters_all _ _ _ _ _ _ _ v.0 (λ e. let z =
    c.loop.invariant _ e (reach_own _ _ _ _ _ _ _ c.push.ensures c.in_ok-log.was) (walk_start _ _ _ _ _ e _ _ (reach_own _ _ _ _ _ _ _ c.push.ensures c.in_ok-log.was) _ c.push.ensures c.in_ok-log.was _ _ c.tail_at-e.ensures c.disjunctions_at-more.ensures) in
    walk_done _ _ _ _ _ e _ _ z.0 _ _ z.1 (omega arith))
