-- `forest::forest::link` meets its contract. Assumes nothing.
use native.Mathlib.Omega.{arith}
use Rattle.forest.proofs.Parents.{linked}
use Rattle.forest.proofs.forest.link.Goals as goal

pub returns : goal.returns
returns c =
    linked c.args.n.count c.args.k c.args.w.now c.args.a c.args.b c.args.n.in_area (omega arith) c.requires.linking c.root_word-v.result
    (omega (arith, c.root_word-v.ensures, c.class_size-there.ensures, c.class_size-came.ensures)) c.put-e.result c.put_root.result c.put-e.new.w c.put_root.new.w
    c.put-e.ensures c.put_root.ensures
