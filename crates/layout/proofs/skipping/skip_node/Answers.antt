-- `layout::skipping::skip_node` meets its contract: one law for each answer.
-- Assumes nothing.
use native.Mathlib.Omega.{arith}
use mathlib.Core.Path.{◌∙◌}
use Rattle.layout.proofs.Skips.{node_end_none, node_end_atom, node_end_short, node_end_arcs}
use Rattle.layout.proofs.skipping.skip_node.Goals as goal

pub returns-then-ws-p : goal.returns-then-ws-p
returns-then-ws-p c = node_end_none _ _ (omega arith)

pub returns-then-head-ge-CODE_LIMIT : goal.returns-then-head-ge-CODE_LIMIT
returns-then-head-ge-CODE_LIMIT c = node_end_atom _ _ (omega arith) (omega arith)

pub returns-then-ws-q : goal.returns-then-ws-q
returns-then-ws-q c = node_end_short _ _ (omega arith) (omega arith) (omega arith)

pub returns : goal.returns
returns c = omega arith ∙ node_end_arcs _ _ (omega arith) (omega arith) (omega arith)
