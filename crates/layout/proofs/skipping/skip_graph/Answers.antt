-- `layout::skipping::skip_graph` meets its contract: what is left of the nodes ends where all of them do.
-- Assumes nothing.
use native.Mathlib.Omega.{arith}
use native.Mathlib.Nat.{sub-zero}
use mathlib.Core.Path.{sym, ◌∙◌}
use Rattle.layout.proofs.Skips.{graph_end_none, graph_end_nodes, ends_done, ends_out, ends_step}
use Rattle.layout.proofs.skipping.skip_graph.Goals as goal

pub returns-then-ws-p : goal.returns-then-ws-p
returns-then-ws-p c = graph_end_none _ _ (omega arith)

pub loop-init : goal.loop-init
loop-init c = rw sub-zero (graph_end_nodes _ _ (omega arith))

pub returns-then-ws-at : goal.returns-then-ws-at
returns-then-ws-at c = ends_out _ _ _ _ (omega arith) (omega arith) ∙ sym c.loop.invariant

pub loop-preserved : goal.loop-preserved
loop-preserved c = c.loop.invariant ∙ ends_step _ _ _ _ _ _ (omega arith) (omega arith) c.skip_node-at.ensures

pub returns : goal.returns
returns c = ends_done _ _ _ _ (omega arith) ∙ sym c.loop.invariant
