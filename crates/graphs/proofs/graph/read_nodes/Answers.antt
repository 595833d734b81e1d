-- `graphs::graph::read_nodes` meets its contract: what is left of the nodes reads as all of them do.
-- Assumes nothing.
use native.Mathlib.Omega.{arith}
use native.Mathlib.Nat.{sub-zero}
use mathlib.Core.Path.{sym, ◌∙◌}
use Rattle.graphs.proofs.Laws.{nodes_done, nodes_stop, nodes_step}
use Rattle.graphs.proofs.graph.read_nodes.Goals as goal

pub loop-i-init : goal.loop-i-init
loop-i-init c = rw sub-zero

pub returns-in_err-walk : goal.returns-in_err-walk
returns-in_err-walk c =
    rw c.from_residual.ensures (nodes_stop _ _ _ _ _ _ (omega arith) (sym (c.in_err-walk.was) ∙ c.read_node.ensures) ∙ sym c.loop-i.invariant)

pub loop-i-preserved : goal.loop-i-preserved
loop-i-preserved c = c.loop-i.invariant ∙ nodes_step _ _ _ _ _ _ _ _ (omega arith) (sym (c.in_ok-walk.was) ∙ c.read_node.ensures)

pub returns : goal.returns
returns c = nodes_done _ _ _ _ _ _ (omega arith) ∙ sym c.loop-i.invariant
