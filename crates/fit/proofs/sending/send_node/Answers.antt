-- `fit::sending::send_node` meets its contract.
-- Assumes nothing.
use native.Mathlib.Omega.{arith}
use Rattle.fit.proofs.OneNode.{place_is, atom_same, atom_other, arcs_asked, arcs_stuck, arcs_went}
use Rattle.fit.proofs.sending.send_node.Goals as goal

pub returns-then-head-other : goal.returns-then-head-other
returns-then-head-other c =
    let there = place_is c.args.map.now c.args.structure.places.now _ _ _ _ c.wide.ensures c.wide-2.ensures c.wide-there.ensures in
    atom_same _ _ _ _ _ _ _ c.requires.noted c.requires.node_asked _ there (omega arith) (omega arith)

pub returns-then-head-ge-CODE_LIMIT : goal.returns-then-head-ge-CODE_LIMIT
returns-then-head-ge-CODE_LIMIT c =
    let there = place_is c.args.map.now c.args.structure.places.now _ _ _ _ c.wide.ensures c.wide-2.ensures c.wide-there.ensures in
    atom_other _ _ _ _ _ _ _ c.requires.noted c.requires.node_asked _ there (omega arith) c.if-head-other.false

pub send_arcs-requires : goal.send_arcs-requires
send_arcs-requires c =
    let there = place_is c.args.map.now c.args.structure.places.now _ _ _ _ c.wide.ensures c.wide-2.ensures c.wide-there.ensures in
    arcs_asked _ _ _ _ _ _ _ c.requires.noted c.requires.node_asked _ there (omega arith) _ _ c.arcs_in-ahead.ensures (omega arith)

pub returns-in_err-reached : goal.returns-in_err-reached
returns-in_err-reached c =
    let there = place_is c.args.map.now c.args.structure.places.now _ _ _ _ c.wide.ensures c.wide-2.ensures c.wide-there.ensures in
    rw c.from_residual.ensures (arcs_stuck _ _ _ _ _ _ _ c.requires.noted c.requires.node_asked _ there (omega arith) _ _
    c.arcs_in-ahead.ensures (omega arith) _ _ c.in_err-reached.was c.send_arcs.ensures)

pub returns : goal.returns
returns c =
    let there = place_is c.args.map.now c.args.structure.places.now _ _ _ _ c.wide.ensures c.wide-2.ensures c.wide-there.ensures in
    arcs_went _ _ _ _ _ _ _ c.requires.noted c.requires.node_asked _ there (omega arith) _ _ c.arcs_in-ahead.ensures (omega arith) _ _ _
    c.in_ok-reached.was c.send_arcs.ensures _ (omega arith)
