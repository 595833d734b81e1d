-- `forest::settle::drain` meets its contract. The loop's invariant: the frame is worked off from `from` to x. Assumes nothing.
use mathlib.Core.Path.{◌≡◌, refl}
use native.Mathlib.Omega.{arith}
use lib.ListN.{length}
use Rattle.std.proofs.lemmas.Result.{err_from_is_err_and}
use Rattle.area.specs.Region.{loaded_words}
use Rattle.forest.specs.State.{targets}
use Rattle.forest.proofs.Words.{words_later, targets_later}
use Rattle.forest.proofs.Turns.{arc_pos, arc_low}
use Rattle.forest.proofs.Drain.{walk_working, drain_turn, drained_bad}
use borrow.Author.Rules.{rules}
use Rattle.forest.proofs.settle.drain.Goals as goal

pub step-requires-clause-working : goal.step-requires-clause-working
step-requires-clause-working c =
    let le : length c.loop-x.w ≡ length c.args.w.now = c.loop-x.invariant.later.len in
    rw (words_later _ _ _ _ (omega arith) c.loop-x.invariant.later, targets_later _ _ _ _ (omega arith) c.loop-x.invariant.later)
    (walk_working _ _ _ _ _ _ _ _ _ _ _ _ c.requires.working c.loop-x.invariant)

pub returns-in_err-m : goal.returns-in_err-m
returns-in_err-m c =
    let le : length c.loop-x.w ≡ length c.args.w.now = c.loop-x.invariant.later.len in
    let wl = words_later c.args.k c.args.w.now c.loop-x.m.k c.loop-x.w (omega arith) c.loop-x.invariant.later in
    let tl = targets_later c.args.k c.args.w.now c.loop-x.m.k c.loop-x.w (omega arith) c.loop-x.invariant.later in
    let p = err_from_is_err_and c.from_residual.result c.from_residual.ensures.1 in
    rw (p.1, p.2) (drained_bad _ _ _ _ _ _ _ _ _ _ _ _ _ _ _ _ c.loop-x.invariant (rw (wl, tl) at c.in_err-m.ensures))

pub overflow_sub-x : goal.overflow_sub-x
overflow_sub-x c =
    let F = loaded_words c.args.w.now in
    let T = targets c.args.w.now in
    let le : length c.loop-x.w ≡ length c.args.w.now = c.loop-x.invariant.later.len in
    let v = walk_working F T c.args.n.count c.args.k c.args.s c.args.w.now c.args.from c.args.to c.loop-x.m.k c.loop-x.m.s c.loop-x.w c.loop-x.x c.requires.working c.loop-x.invariant in
    let ps = arc_pos v.G v.H F T c.args.n.count c.loop-x.m.k c.loop-x.m.s c.loop-x.x c.args.to v.fs c.loop-x.w (omega arith) (omega arith) v.state
    c.loop-x-test.true in
    search rules

pub next-x-requires : goal.next-x-requires
next-x-requires c =
    let F = loaded_words c.args.w.now in
    let T = targets c.args.w.now in
    let le : length c.loop-x.w ≡ length c.args.w.now = c.loop-x.invariant.later.len in
    let v = walk_working F T c.args.n.count c.args.k c.args.s c.args.w.now c.args.from c.args.to c.loop-x.m.k c.loop-x.m.s c.loop-x.w c.loop-x.x c.requires.working c.loop-x.invariant in
    let al = arc_low v.G v.H F T c.args.n.count c.loop-x.m.k c.loop-x.m.s c.loop-x.x c.args.to v.fs c.loop-x.w (omega arith) (omega arith) v.state
    c.loop-x-test.true in
    omega arith

pub loop-x-preserved : goal.loop-x-preserved
loop-x-preserved c =
    let le : length c.loop-x.w ≡ length c.args.w.now = c.loop-x.invariant.later.len in
    let wl = words_later c.args.k c.args.w.now c.loop-x.m.k c.loop-x.w (omega arith) c.loop-x.invariant.later in
    let tl = targets_later c.args.k c.args.w.now c.loop-x.m.k c.loop-x.w (omega arith) c.loop-x.invariant.later in
    drain_turn _ _ _ _ _ _ _ _ _ _ _ _ _ _ _ _ _ c.loop-x.invariant (rw (wl, tl) at c.in_ok-m.ensures) refl c.next-x.ensures
