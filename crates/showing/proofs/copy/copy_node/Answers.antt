-- `showing::copy::copy_node` meets its contract: an atom is its head, and other nodes have arcs after it.
-- Assumes nothing.
use native.Mathlib.Omega.{arith}
use Rattle.showing.proofs.Nodes.{node_here, node_atom, node_asks, node_arcs}
use Rattle.showing.proofs.copy.copy_node.Goals as goal

pub word_at-head-requires : goal.word_at-head-requires
word_at-head-requires c = (node_here _ _ _ _ c.requires).0

pub returns-then-head-ge-CODE_LIMIT : goal.returns-then-head-ge-CODE_LIMIT
returns-then-head-ge-CODE_LIMIT c = λ d. node_atom _ _ _ _ d _ c.word_at-head.ensures (omega arith)

pub copy_arcs-requires : goal.copy_arcs-requires
copy_arcs-requires c = node_asks _ _ _ _ c.requires _ c.word_at-head.ensures
    (omega arith)

pub returns : goal.returns
returns c = λ d. node_arcs _ _ _ _ d _ c.word_at-head.ensures (omega arith) _ _
    c.copy_arcs.ensures
