-- `classes::push::add` meets its contract. Assumes nothing.
use mathlib.Core.Path.{refl}
use native.Mathlib.Omega.{arith}
use Rattle.forest.proofs.Words.{words_later, targets_later}
use Rattle.classes.proofs.Pushings.{add_asked, add_low, add_listing, adds_bad, adds}
use Rattle.std.proofs.lemmas.Result.{err_from_is_err_and}
use Rattle.classes.proofs.push.add.Goals as goal

pub unite-requires : goal.unite-requires
unite-requires c =
    let lo = add_low c.args.n.count c.args.k c.args.w.now c.args.g c.args.base c.args.c c.requires in
    let l0 = lo.0 in
    record {
      x_lt_n = (omega arith, l0);
      uniting = add_asked c.args.n.count c.args.k c.args.w.now c.args.g c.args.base c.args.c c.requires;
    }

pub returns-in_err-e : goal.returns-in_err-e
returns-in_err-e c =
    let p = err_from_is_err_and c.from_residual.result c.from_residual.ensures.1 in
    rw (p.1, p.2) (adds_bad c.args.n.count c.args.k c.args.w.now c.args.g c.args.base c.args.c _ _ _ c.in_err-e.ensures refl)

pub nodes-requires : goal.nodes-requires
nodes-requires c =
    let wl = words_later c.args.k c.args.w.now _ c.unite.new.w (omega arith) c.unite.ensures.later in
    let tl = targets_later c.args.k c.args.w.now _ c.unite.new.w (omega arith) c.unite.ensures.later in record {
      listing = rw (wl, tl) (add_listing c.args.n.count c.args.k c.args.w.now c.args.g c.args.base c.args.c _ _ _ c.in_ok-e.ensures refl c.requires);
    }

pub returns : goal.returns
returns c =
    let wl = words_later c.args.k c.args.w.now _ c.unite.new.w (omega arith) c.unite.ensures.later in
    let tl = targets_later c.args.k c.args.w.now _ c.unite.new.w (omega arith) c.unite.ensures.later in
    adds c.args.n.count c.args.k c.args.w.now c.args.g c.args.base c.args.c _ _ _ c.in_ok-e.ensures refl _ _ _
    (rw (wl, tl) at c.nodes.ensures)
