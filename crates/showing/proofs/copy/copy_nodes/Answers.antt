-- `showing::copy::copy_nodes` meets its contract: what is left to copy goes on to the whole.
-- Assumes nothing.
use native.Mathlib.Omega.{arith}
use native.Mathlib.Nat.{sub-zero, sub-add-eq}
use Rattle.showing.proofs.Copying.{nodes_start, nodes_done, nodes_same, nodes_asks, nodes_near, nodes_on}
use Rattle.showing.proofs.copy.copy_nodes.Goals as goal

pub loop-init : goal.loop-init
loop-init c = λ d. rw sub-zero (nodes_start _ _ _ _ _ d)

pub copy_node-end-requires : goal.copy_node-end-requires
copy_node-end-requires c = nodes_asks _ _ _ _ _ c.requires _ _ _ _ (c.loop.invariant c.requires) (omega arith)

pub overflow_sub-at : goal.overflow_sub-at
overflow_sub-at c = let h = (nodes_near _ _ _ _ _ c.requires _ _ _ _ (c.loop.invariant c.requires) (omega arith) _ _
    c.copy_node-end.ensures).0 in omega arith

pub overflow_add-at : goal.overflow_add-at
overflow_add-at c = let h = (nodes_near _ _ _ _ _ c.requires _ _ _ _ (c.loop.invariant c.requires) (omega arith) _ _
    c.copy_node-end.ensures).1 in omega arith

pub loop-preserved : goal.loop-preserved
loop-preserved c = λ d. rw sub-add-eq (nodes_on _ _ _ _ _ d _ _ _ _ (c.loop.invariant d) (omega arith) _ _
    c.copy_node-end.ensures)

pub returns : goal.returns
returns c = λ d. nodes_done _ _ _ _ _ d _ _ _ _ (c.loop.invariant d) (omega arith)
