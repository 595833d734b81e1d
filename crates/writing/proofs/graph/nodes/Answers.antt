-- `writing::graph::nodes` meets its contract. The loop's invariant: the first i nodes are written up to `at`. Assumes nothing.
use native.Mathlib.Omega.{arith}
use Rattle.writing.proofs.Heads.{going_start, gone, going_noding, going_turn, going_end}
use Rattle.writing.proofs.graph.nodes.Goals as goal

pub loop-i-init : goal.loop-i-init
loop-i-init c = going_start c.args.n.count c.args.k c.args.w.now c.args.from

pub node-p-requires : goal.node-p-requires
node-p-requires c =
    going_noding c.args.n.count c.args.k c.args.w.now c.args.from c.loop-i.at c.loop-i.met c.loop-i.i c.loop-i.w c.loop-i.invariant
    c.loop-i-test.true c.requires

pub overflow_add-i : goal.overflow_add-i
overflow_add-i c =
    let p = gone c.args.n.count c.args.k c.args.w.now c.args.from c.loop-i.at c.loop-i.met c.loop-i.i c.loop-i.w c.loop-i.invariant c.requires in
    let a = p.marks.few in
    let b = p.classes.room in
    omega arith

pub loop-i-smaller : goal.loop-i-smaller
loop-i-smaller c =
    let p = gone c.args.n.count c.args.k c.args.w.now c.args.from c.loop-i.at c.loop-i.met c.loop-i.i c.loop-i.w c.loop-i.invariant c.requires in
    let a = p.marks.few in
    let b = p.classes.room in
    omega arith

pub loop-i-preserved : goal.loop-i-preserved
loop-i-preserved c =
    going_turn c.args.n.count c.args.k c.args.w.now c.args.from c.loop-i.at c.loop-i.met c.loop-i.i c.loop-i.w c.loop-i.invariant
    c.loop-i-test.true c.node-p.result.at c.node-p.result.met c.node-p.new.w c.node-p.ensures

pub returns : goal.returns
returns c =
    going_end c.args.n.count c.args.k c.args.w.now c.args.from c.loop-i.at c.loop-i.met c.loop-i.i c.loop-i.w c.loop-i.invariant (omega arith)
