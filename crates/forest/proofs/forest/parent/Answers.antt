-- `forest::forest::parent` meets its contract. Assumes nothing.
use mathlib.Core.Path.{◌≡◌, sym, ◌∙◌}
use native.Mathlib.Omega.{arith}
use lib.ListN.{length}
use Rattle.forest.specs.Forest.{parents}
use Rattle.forest.proofs.Parents.{length_parents, getD_parents}
use Rattle.forest.proofs.forest.parent.Goals as goal

pub returns : goal.returns
returns c =
    let e = c.wide.ensures ∙ sym (getD_parents c.args.n.count c.args.w.now c.args.x c.requires.x_lt_n) in
    let l : length (parents c.args.n.count c.args.w.now) ≡ c.args.n.count = length_parents c.args.n.count c.args.w.now (omega arith) in
    (e, omega (arith, c.requires.shape.inside c.args.x (omega arith)))
