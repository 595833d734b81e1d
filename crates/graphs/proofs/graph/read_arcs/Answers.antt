-- `graphs::graph::read_arcs` meets its contract: what is left of the arcs reads as all of them do, and their words are there.
-- Assumes nothing.
use native.Mathlib.Omega.{arith}
use native.Mathlib.Nat.{sub-zero}
use mathlib.Core.Path.{sym, ◌∙◌}
use Rattle.graphs.proofs.Laws.{arc_feature, arcs_short, arcs_there, arcs_done, arcs_stop, arcs_step}
use Rattle.graphs.proofs.graph.read_arcs.Goals as goal

pub returns-then-ws-p : goal.returns-then-ws-p
returns-then-ws-p c = arcs_short _ _ _ _ _ (omega arith)

pub returns-then-ws-p-2 : goal.returns-then-ws-p-2
returns-then-ws-p-2 c = arcs_short _ _ _ _ _ (omega arith)

pub loop-init : goal.loop-init
loop-init c = (omega arith, rw sub-zero (arcs_there _ _ _ _ _ (omega arith)))

pub returns-in_err-met : goal.returns-in_err-met
returns-in_err-met c =
    rw c.from_residual.ensures (arcs_stop _ _ _ _ _ _ (omega arith) (sym (c.in_err-met.was) ∙ c.read_arc.ensures) ∙ sym c.loop.invariant.1)

pub overflow_add-low : goal.overflow_add-low
overflow_add-low c = let h = arc_feature _ _ _ _ _ _ (sym (c.in_ok-met.was) ∙ c.read_arc.ensures) in omega arith

pub loop-preserved : goal.loop-preserved
loop-preserved c = (
  omega arith,
  c.loop.invariant.1 ∙ arcs_step _ _ _ _ _ _ _ _ (omega arith) (sym (c.in_ok-met.was) ∙ c.read_arc.ensures),
)

pub returns : goal.returns
returns c = arcs_done _ _ _ _ _ _ (omega arith) ∙ sym c.loop.invariant.1
