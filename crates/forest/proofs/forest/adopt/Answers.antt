-- `forest::forest::adopt` meets its contract. Assumes nothing.
use native.Mathlib.Omega.{arith}
use Rattle.forest.proofs.Parents.{getD_parents, linked}
use Rattle.forest.proofs.forest.adopt.Goals as goal

pub returns : goal.returns
returns c =
    let word = getD_parents c.args.n.count c.args.w.now c.args.a c.requires.linking.0.low.0 in
    linked c.args.n.count c.args.k c.args.w.now c.args.a c.args.b c.args.n.in_area (omega arith) c.requires.linking.0 _
    (omega (arith, c.requires.linking.1.own)) c.put-e.result c.put_root.result c.put-e.new.w c.put_root.new.w c.put-e.ensures c.put_root.ensures
