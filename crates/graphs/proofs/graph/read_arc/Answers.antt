-- `graphs::graph::read_arc` meets its contract: one law for each answer.
-- Assumes nothing.
use native.Mathlib.Omega.{arith}
use Rattle.graphs.proofs.Laws.{arc_low, arc_high, arc_met, arc_far, arc_no_node, arc_next}
use Rattle.graphs.proofs.graph.read_arc.Goals as goal

pub returns-then-feature-low : goal.returns-then-feature-low
returns-then-feature-low c = arc_low _ _ _ _ _ (omega arith)

pub returns-then-feature-ge-CODE_LIMIT : goal.returns-then-feature-ge-CODE_LIMIT
returns-then-feature-ge-CODE_LIMIT c = arc_high _ _ _ _ _ (omega arith) (omega arith)

pub returns-then-target-met : goal.returns-then-target-met
returns-then-target-met c = arc_met _ _ _ _ _ (omega arith) (omega arith) (omega arith)

pub returns-then-met-target : goal.returns-then-met-target
returns-then-met-target c = arc_far _ _ _ _ _ (omega arith) (omega arith) (omega arith) (omega arith)

pub returns-then-nodes-target : goal.returns-then-nodes-target
returns-then-nodes-target c = arc_no_node _ _ _ _ _ (omega arith) (omega arith) (omega arith) (omega arith) (omega arith)

pub returns : goal.returns
returns c = arc_next _ _ _ _ _ (omega arith) (omega arith) (omega arith) (omega arith) (omega arith)
