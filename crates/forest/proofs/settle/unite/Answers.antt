-- `forest::settle::unite` meets its contract. Assumes nothing.
use mathlib.Core.Path.{refl}
use native.Mathlib.Omega.{arith}
use Rattle.std.proofs.lemmas.Result.{err_from_is_err_and}
use Rattle.area.specs.Region.{loaded_words}
use Rattle.forest.specs.State.{targets}
use Rattle.forest.proofs.Words.{words_later, targets_later}
use Rattle.forest.proofs.Drain.{united, united_bad, united_stacked}
use Rattle.forest.proofs.Adopting.{united_at_once}
use Rattle.forest.proofs.settle.unite.Goals as goal

pub returns-in-Some : goal.returns-in-Some
returns-in-Some c = united_at_once _ _ _ _ _ _ _ _ _ c.in-Some.ensures

pub returns-in_err-m : goal.returns-in_err-m
returns-in_err-m c =
    let p = err_from_is_err_and c.from_residual.result c.from_residual.ensures.1 in
    rw (p.1, p.2) (united_bad (loaded_words c.args.w.now) (targets c.args.w.now) _ _ _ _ _ _ _ _ (rw c.in_default.ensures at c.in_err-m.ensures))

pub settle-requires : goal.settle-requires
settle-requires c =
    let merged = rw c.in_default.ensures at c.in_ok-m.ensures in
    let wl = words_later _ c.args.w.now _ c.blend.new.w (omega arith) merged.later in
    let tl = targets_later _ c.args.w.now _ c.blend.new.w (omega arith) merged.later in
    record {
      stacked = rw (wl, tl)
          (united_stacked (loaded_words c.args.w.now) (targets c.args.w.now) _ _ _ _ _ _ _ _ _ c.requires.uniting.G c.requires.uniting.H c.requires.uniting.state c.requires.uniting.same
          merged refl);
    }

pub returns : goal.returns
returns c =
    let merged = rw c.in_default.ensures at c.in_ok-m.ensures in
    let wl = words_later _ c.args.w.now _ c.blend.new.w (omega arith) merged.later in
    let tl = targets_later _ c.args.w.now _ c.blend.new.w (omega arith) merged.later in
    united (loaded_words c.args.w.now) (targets c.args.w.now) _ _ _ _ _ _ _ _ _ _ _ _ merged refl (rw (wl, tl) at c.settle.ensures)
