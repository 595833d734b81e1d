-- `graphs::graph::read_node` meets its contract: one law for each answer.
-- Assumes nothing.
use native.Mathlib.Omega.{arith}
use mathlib.Core.Path.{◌∙◌}
use Rattle.graphs.proofs.Laws.{node_unmet, node_none, node_arcs, node_bad, node_atom}
use Rattle.graphs.proofs.graph.read_node.Goals as goal

pub returns-then-met-i : goal.returns-then-met-i
returns-then-met-i c = node_unmet _ _ _ _ _ (omega arith)

pub returns-then-ws-p : goal.returns-then-ws-p
returns-then-ws-p c = node_none _ _ _ _ _ (omega arith) (omega arith)

pub returns-then-head-lt-CODE_LIMIT : goal.returns-then-head-lt-CODE_LIMIT
returns-then-head-lt-CODE_LIMIT c = c.read_arcs.ensures ∙ node_arcs _ _ _ _ _ (omega arith) (omega arith) (omega arith)

pub returns-then-head-ge-CODE_LIMIT : goal.returns-then-head-ge-CODE_LIMIT
returns-then-head-ge-CODE_LIMIT c = node_bad _ _ _ _ _ (omega arith) (omega arith) (omega arith) (omega arith)

pub returns : goal.returns
returns c = node_atom _ _ _ _ _ (omega arith) (omega arith) (omega arith) (omega arith)
