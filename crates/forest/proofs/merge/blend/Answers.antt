-- `forest::merge::blend` meets its contract. Assumes nothing.
use native.Mathlib.Omega.{arith}
use Rattle.forest.proofs.Turns.{joined_same, joined_up, joined_down}
use Rattle.forest.proofs.merge.blend.Goals as goal

pub returns-then-a-b : goal.returns-then-a-b
returns-then-a-b c =
    joined_same c.args.n.count c.args.k c.args.s c.args.w.now c.args.x c.args.y c.requires.x_lt_n.0 c.requires.x_lt_n.1 c.args.n.in_area (omega arith) c.find-a.result c.find-b.result
    c.find-a.ensures c.find-b.ensures c.if-a-b.true c.requires.some_state

pub returns-then-yields : goal.returns-then-yields
returns-then-yields c =
    joined_up c.args.n.count c.args.k c.args.s c.args.w.now c.args.x c.args.y c.requires.x_lt_n.0 c.requires.x_lt_n.1 c.args.n.in_area (omega arith) c.find-a.result c.find-b.result
    c.find-a.ensures c.find-b.ensures _ _ _ c.fuse.new.w c.fuse.ensures

pub returns : goal.returns
returns c =
    joined_down c.args.n.count c.args.k c.args.s c.args.w.now c.args.x c.args.y c.requires.x_lt_n.0 c.requires.x_lt_n.1 c.args.n.in_area (omega arith) c.find-a.result c.find-b.result
    c.find-a.ensures c.find-b.ensures _ _ _ c.fuse-2.new.w c.fuse-2.ensures
