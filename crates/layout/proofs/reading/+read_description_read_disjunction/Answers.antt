-- `layout::reading::read_description` and `layout::reading::read_disjunction`, which call each other, meet their contracts: what is
-- left of a list reads as the whole does, and the depth falls.
-- Assumes nothing.
use native.Mathlib.Omega.{arith}
use native.Mathlib.Nat.{sub-zero}
use mathlib.Core.Path.{sym, ◌∙◌}
use Rattle.layout.proofs.Laws.{times_done, times_stop, times_step, description_no_graph, description_none, description_times}
use Rattle.layout.proofs.Laws.{disjunction_deep, disjunction_none, disjunction_few, disjunction_times}
use Rattle.layout.proofs.reading.+read_description_read_disjunction.Goals as goal

pub read_description-returns-in_err-q : goal.read_description-returns-in_err-q
read_description-returns-in_err-q t c =
    rw c.from_residual.ensures (description_no_graph _ _ _ (sym c.in_err-q.was ∙ c.read_graph.ensures))

pub read_description-returns-then-ws-q : goal.read_description-returns-then-ws-q
read_description-returns-then-ws-q t c = description_none _ _ _ _ (sym c.in_ok-q.was ∙ c.read_graph.ensures) (omega arith)

pub read_description-loop-init : goal.read_description-loop-init
read_description-loop-init t c = rw sub-zero (description_times _ _ _ _ (sym c.in_ok-q.was ∙ c.read_graph.ensures) (omega arith))

pub read_description-returns-in_err-at : goal.read_description-returns-in_err-at
read_description-returns-in_err-at t c =
    rw c.from_residual-in_err-at.ensures (times_stop _ _ _ (omega arith) (sym c.in_err-at.was ∙ c.read_disjunction.ensures) ∙ sym c.loop.invariant)

pub read_description-loop-preserved : goal.read_description-loop-preserved
read_description-loop-preserved t c =
    c.loop.invariant ∙ times_step _ _ _ _ _ (omega arith) (sym c.in_ok-at.was ∙ c.read_disjunction.ensures)

pub read_description-returns : goal.read_description-returns
read_description-returns t c = times_done _ _ _ (omega arith) ∙ sym c.loop.invariant

pub read_disjunction-returns-then-left-eq0 : goal.read_disjunction-returns-then-left-eq0
read_disjunction-returns-then-left-eq0 t c = disjunction_deep _ _ _ (omega arith)

pub read_disjunction-returns-then-ws-p : goal.read_disjunction-returns-then-ws-p
read_disjunction-returns-then-ws-p t c = disjunction_none _ _ _ (omega arith) (omega arith)

pub read_disjunction-returns-then-count-lt-FEWEST_ALTERNATIVES : goal.read_disjunction-returns-then-count-lt-FEWEST_ALTERNATIVES
read_disjunction-returns-then-count-lt-FEWEST_ALTERNATIVES t c = disjunction_few _ _ _ (omega arith) (omega arith) (omega arith)

pub read_disjunction-loop-init : goal.read_disjunction-loop-init
read_disjunction-loop-init t c = rw sub-zero (disjunction_times _ _ _ (omega arith) (omega arith) (omega arith))

pub read_disjunction-returns-in_err-at : goal.read_disjunction-returns-in_err-at
read_disjunction-returns-in_err-at t c =
    rw c.from_residual.ensures (times_stop _ _ _ (omega arith) (sym c.in_err-at.was ∙ c.read_description.ensures) ∙ sym c.loop.invariant)

pub read_disjunction-loop-preserved : goal.read_disjunction-loop-preserved
read_disjunction-loop-preserved t c =
    c.loop.invariant ∙ times_step _ _ _ _ _ (omega arith) (sym c.in_ok-at.was ∙ c.read_description.ensures)

pub read_disjunction-returns : goal.read_disjunction-returns
read_disjunction-returns t c = times_done _ _ _ (omega arith) ∙ sym c.loop.invariant
