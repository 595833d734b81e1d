-- `fit::sending::send_nodes` meets its contract: what is left of the nodes goes on to send them all.
-- Assumes nothing.
use native.Mathlib.Omega.{arith}
use Rattle.fit.proofs.Nodewise.{nodewise_start, nodewise_end, nodewise_next, nodewise_stop, nodewise_step}
use Rattle.fit.proofs.sending.send_nodes.Goals as goal

pub loop-i-init : goal.loop-i-init
loop-i-init c = nodewise_start _ _ _ _ _ c.requires.nodes_asked

pub send_node-requires-clause-node_asked : goal.send_node-requires-clause-node_asked
send_node-requires-clause-node_asked c = nodewise_next _ _ _ _ _ _ _ _ _ c.loop-i.invariant (omega arith)

pub returns-in_err-walk : goal.returns-in_err-walk
returns-in_err-walk c =
    rw c.from_residual.ensures
    (nodewise_stop _ _ _ _ _ _ _ _ _ c.loop-i.invariant (omega arith) _ _ c.in_err-walk.was c.send_node.ensures)

pub loop-i-preserved : goal.loop-i-preserved
loop-i-preserved c =
    nodewise_step _ _ _ _ _ _ _ _ _ c.loop-i.invariant (omega arith) c.requires.noted.canonical _ _ _ _ c.in_ok-walk.was c.send_node.ensures

pub returns : goal.returns
returns c = nodewise_end _ _ _ _ _ _ _ _ _ c.loop-i.invariant (omega arith)
