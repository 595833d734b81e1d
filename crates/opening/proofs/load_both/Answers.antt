-- `opening::load_both` meets its contract.
-- Assumes nothing.
use Rattle.opening.proofs.Pairs.{begins, next, paired}
use Rattle.opening.proofs.load_both.Goals as goal

pub load-m-requires : goal.load-m-requires
load-m-requires c = begins c.args.t.now c.args.a.now c.args.b.now c.requires

pub load-requires : goal.load-requires
load-requires c =
    next c.args.t.now c.args.a.now c.args.b.now c.load-m.new.t c.load-m.result c.requires c.load-m.ensures

pub shape_of-t : goal.shape_of-t
shape_of-t c =
    (paired c.args.t.now c.args.a.now c.args.b.now c.load-m.new.t c.load-m.result c.requires c.load-m.ensures c.load.new.t c.load.result
    c.load.ensures).len

pub returns : goal.returns
returns c =
    paired c.args.t.now c.args.a.now c.args.b.now c.load-m.new.t c.load-m.result c.requires c.load-m.ensures c.load.new.t c.load.result
    c.load.ensures
