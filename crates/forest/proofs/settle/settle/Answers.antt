-- `forest::settle::settle` meets its contract. The loop's invariant: as many frames are left as m tells. Assumes nothing.
use mathlib.Core.Path.{◌≡◌, refl}
use native.Mathlib.Omega.{arith}
use lib.ListN.{length}
use Rattle.std.proofs.lemmas.Result.{err_from_is_err_and}
use Rattle.forest.proofs.Words.{words_later, targets_later}
use Rattle.forest.proofs.Walks.{some}
use Rattle.forest.proofs.Drain.{settle_working, settle_turn, settled_bad, settled_end, drained_here}
use Rattle.forest.proofs.settle.settle.Goals as goal

pub drain-requires : goal.drain-requires
drain-requires c =
    let le : length c.loop-m.w ≡ length c.args.w.now = c.loop-m.invariant.later.len in
    record {
      working = rw (words_later _ _ _ _ (omega arith) c.loop-m.invariant.later, targets_later _ _ _ _ (omega arith) c.loop-m.invariant.later)
          (settle_working _ _ _ _ _ _ _ _ _ _ _ c.requires.stacked c.loop-m.invariant (some _ c.loop-m-test.true) c.wide-from.ensures c.wide-to.ensures);
    }

pub returns-in_err-m : goal.returns-in_err-m
returns-in_err-m c =
    let p = err_from_is_err_and c.from_residual.result c.from_residual.ensures.1 in
    rw (p.1, p.2) (settled_bad _ _ _ _ _ _ _ _ _ _ _ _ _ _ c.loop-m.invariant (some _ c.loop-m-test.true) c.wide-from.ensures
    c.wide-to.ensures (drained_here (omega arith) c.loop-m.invariant c.in_err-m.ensures))

pub loop-m-preserved : goal.loop-m-preserved
loop-m-preserved c =
    settle_turn _ _ _ _ _ _ _ _ _ _ _ _ _ _ _ c.loop-m.invariant (some _ c.loop-m-test.true) c.wide-from.ensures
    c.wide-to.ensures (drained_here (omega arith) c.loop-m.invariant c.in_ok-m.ensures) refl

pub returns : goal.returns
returns c = settled_end _ _ _ _ _ _ _ _ _ c.loop-m.invariant c.loop-m-test.false
