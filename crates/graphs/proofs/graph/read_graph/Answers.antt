-- `graphs::graph::read_graph` meets its contract: one law for each answer.
-- Assumes nothing.
use native.Mathlib.Omega.{arith}
use mathlib.Core.Path.{◌∙◌}
use Rattle.graphs.proofs.Laws.{graph_none, graph_empty, graph_nodes}
use Rattle.graphs.proofs.graph.read_graph.Goals as goal

pub returns-then-ws-p : goal.returns-then-ws-p
returns-then-ws-p c = graph_none _ _ (omega arith)

pub returns-then-nodes-eq0 : goal.returns-then-nodes-eq0
returns-then-nodes-eq0 c = graph_empty _ _ (omega arith) (omega arith)

pub returns : goal.returns
returns c = c.read_nodes.ensures ∙ graph_nodes _ _ (omega arith) (omega arith)
