-- `classes::visit::arcs` meets its contract. The loop's invariant: the first i arcs are visited. Assumes nothing.
use mathlib.Core.Path.{◌≡◌, refl}
use native.Mathlib.Omega.{arith}
use lib.ListN.{length}
use Rattle.area.specs.Region.{loaded_words}
use Rattle.forest.specs.State.{targets}
use Rattle.forest.specs.Outcome.{link_code}
use Rattle.forest.proofs.Words.{words_later, targets_later}
use Rattle.classes.proofs.Runs.{stringing_coming, stringing_turn, run_bad}
use Rattle.std.proofs.lemmas.Result.{err_from_is_err_and}
use Rattle.classes.proofs.visit.arcs.Goals as goal

pub visit-requires : goal.visit-requires
visit-requires c =
    let F = loaded_words c.args.w.now in
    let T = targets c.args.w.now in
    let le : length c.loop-i.w ≡ length c.args.w.now = c.loop-i.invariant.later.len in
    let wl = words_later c.args.k c.args.w.now c.loop-i.came.k c.loop-i.w (omega arith) c.loop-i.invariant.later in
    let tl = targets_later c.args.k c.args.w.now c.loop-i.came.k c.loop-i.w (omega arith) c.loop-i.invariant.later in record {
      x_lt_n = (omega arith, omega arith);
      coming = rw (wl, tl) (stringing_coming F T c.args.n.count c.args.k c.args.w.now c.args.x c.args.from c.args.d c.loop-i.i c.loop-i.came.k (link_code c.loop-i.came.at) c.loop-i.w c.loop-i.invariant
          c.loop-i-test.true c.requires.batched);
      ordered = rw wl c.loop-i.invariant.order;
    }

pub returns-in_err-came : goal.returns-in_err-came
returns-in_err-came c =
    let F = loaded_words c.args.w.now in
    let T = targets c.args.w.now in
    let le : length c.loop-i.w ≡ length c.args.w.now = c.loop-i.invariant.later.len in
    let wl = words_later c.args.k c.args.w.now c.loop-i.came.k c.loop-i.w (omega arith) c.loop-i.invariant.later in
    let tl = targets_later c.args.k c.args.w.now c.loop-i.came.k c.loop-i.w (omega arith) c.loop-i.invariant.later in
    let p = err_from_is_err_and c.from_residual.result c.from_residual.ensures.1 in
    rw (p.1, p.2) (run_bad F T c.args.n.count c.args.k c.args.w.now c.args.x c.args.from c.args.d c.loop-i.i c.loop-i.came.k (link_code c.loop-i.came.at) c.loop-i.w c.loop-i.invariant
    c.loop-i-test.true _ _ _ _ (rw (wl, tl) at c.in_err-came.ensures) refl)

pub loop-i-preserved : goal.loop-i-preserved
loop-i-preserved c =
    let F = loaded_words c.args.w.now in
    let T = targets c.args.w.now in
    let le : length c.loop-i.w ≡ length c.args.w.now = c.loop-i.invariant.later.len in
    let wl = words_later c.args.k c.args.w.now c.loop-i.came.k c.loop-i.w (omega arith) c.loop-i.invariant.later in
    let tl = targets_later c.args.k c.args.w.now c.loop-i.came.k c.loop-i.w (omega arith) c.loop-i.invariant.later in
    stringing_turn F T c.args.n.count c.args.k c.args.w.now c.args.x c.args.from c.args.d c.loop-i.i c.loop-i.came.k (link_code c.loop-i.came.at) c.loop-i.w c.loop-i.invariant
    c.loop-i-test.true _ _ _ _ (rw (wl, tl) at c.in_ok-came.ensures) refl
