-- `writing::graph::node` meets its contract. Assumes nothing.
use mathlib.Core.Path.{sym, ◌∙◌, subst}
use mathlib.Core.Logic.{inl, inr}
use Prim.Native.Nat.{ℕ, ◌+◌}
use native.Mathlib.Omega.{arith}
use lib.ListN.{set}
use Rattle.area.specs.Map.{RESULT}
use Rattle.forest.proofs.Contents.{told_atom, told_code}
use Rattle.writing.specs.Writing.{Arcing, Arced, NodeWritten}
use Rattle.writing.proofs.Heads.{noded_atom, noding_arcs, noded_small, noded_arcs}
use Rattle.writing.proofs.graph.node.Goals as goal
use Rattle.writing.proofs.graph.node.Goals.{in-Nothing, in-Arcs}

pub returns-in-Atom : goal.returns-in-Atom
returns-in-Atom c =
    let bears = told_atom _ _ _ (sym c.held_by.ensures ∙ c.in-Atom.is) in
    subst (λ (h : ℕ). NodeWritten c.args.n.count c.args.k c.args.w.now c.args.i c.args.at c.args.m (c.args.at + 1) c.args.m (set c.args.w.now (RESULT + c.args.at) h))
    (sym bears.0)
    (noded_atom c.args.n.count c.args.k c.args.w.now c.args.i c.args.at c.args.m c.wide-c.result c.wide-c.ensures c.requires (omega arith))

pub arcs-p-requires : goal.arcs-p-requires
arcs-p-requires c =
    let code = told_code _ _ _ c.held_by.ensures _
    (elim c.match-held_by.branch [ in-Nothing u ↦ inl (u.in-Nothing.is, u.x-is) | in-Arcs u ↦ inr (_, (u.in-Arcs.is, u.x-is)) ]) in
    subst (λ (z : ℕ). Arcing c.args.n.count c.args.k c.args.w.now z (c.args.at + 1) c.args.m) (sym code.0)
    (noding_arcs c.args.n.count c.args.k c.args.w.now c.args.i c.args.at c.args.m c.wide-c.result c.wide-c.ensures c.requires (omega arith))

pub overflow_cast-w : goal.overflow_cast-w
overflow_cast-w c =
    let code = told_code _ _ _ c.held_by.ensures _
    (elim c.match-held_by.branch [ in-Nothing u ↦ inl (u.in-Nothing.is, u.x-is) | in-Arcs u ↦ inr (_, (u.in-Arcs.is, u.x-is)) ]) in
    let r = subst (λ (z : ℕ). Arced c.args.n.count c.args.k c.args.w.now z (c.args.at + 1) c.args.m c.arcs-p.result.at c.arcs-p.result.met
    c.arcs-p.new.w) code.0 c.arcs-p.ensures in
    let l = noded_small c.args.n.count c.args.k c.args.w.now c.args.i c.args.at c.args.m c.wide-c.result c.wide-c.ensures c.requires (omega arith)
    c.arcs-p.result.at c.arcs-p.result.met c.arcs-p.new.w r in
    omega arith

pub returns : goal.returns
returns c =
    let code = told_code _ _ _ c.held_by.ensures _
    (elim c.match-held_by.branch [ in-Nothing u ↦ inl (u.in-Nothing.is, u.x-is) | in-Arcs u ↦ inr (_, (u.in-Arcs.is, u.x-is)) ]) in
    let r = subst (λ (z : ℕ). Arced c.args.n.count c.args.k c.args.w.now z (c.args.at + 1) c.args.m c.arcs-p.result.at c.arcs-p.result.met
    c.arcs-p.new.w) code.0 c.arcs-p.ensures in
    noded_arcs c.args.n.count c.args.k c.args.w.now c.args.i c.args.at c.args.m c.wide-c.result c.wide-c.ensures c.requires (omega arith) c.arcs-p.result.at
    c.arcs-p.result.met c.arcs-p.new.w r
