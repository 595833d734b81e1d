-- `writing::graph::write_graph` meets its contract. Assumes nothing.
use native.Mathlib.Omega.{arith}
use Rattle.writing.proofs.Whole.{writing_find, writing_number, writing_nodes, writing_small, writes}
use Rattle.writing.proofs.graph.write_graph.Goals as goal

pub find-c-requires : goal.find-c-requires
find-c-requires c =
    let old : _ × _ = writing_find c.args.n.count c.args.k c.args.w.now c.args.o c.requires c.clear.new.w
    c.clear.ensures in record { i_lt_n = old.0.0; shape = old.1 }

pub number-requires : goal.number-requires
number-requires c =
    writing_number c.args.n.count c.args.k c.args.w.now c.args.o c.requires
    c.clear.new.w c.clear.ensures
    c.find-c.result c.find-c.ensures

pub nodes-p-requires : goal.nodes-p-requires
nodes-p-requires c =
    writing_nodes c.args.n.count c.args.k c.args.w.now c.args.o c.requires
    c.clear.new.w
    c.clear.ensures
    c.find-c.result c.find-c.ensures
    c.number.result c.number.new.w c.number.ensures

pub overflow_cast-w : goal.overflow_cast-w
overflow_cast-w c =
    let l = (writing_small c.args.n.count c.args.k c.args.w.now c.args.o c.requires
    c.clear.new.w
    c.clear.ensures
    c.find-c.result
    c.find-c.ensures c.number.result c.number.new.w
    c.number.ensures c.nodes-p.result.at c.nodes-p.result.met c.nodes-p.new.w c.nodes-p.ensures).0 in
    omega arith

pub returns : goal.returns
returns c =
    writes c.args.n.count c.args.k c.args.w.now c.args.o c.requires
    c.clear.new.w
    c.clear.ensures
    c.find-c.result
    c.find-c.ensures c.number.result c.number.new.w
    c.number.ensures c.nodes-p.result.at c.nodes-p.result.met c.nodes-p.new.w c.nodes-p.ensures
