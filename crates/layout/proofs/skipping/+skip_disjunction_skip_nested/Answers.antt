-- `layout::skipping::skip_disjunction` and `layout::skipping::skip_nested`, which call each other, meet their contracts: what is left
-- of a list ends where the whole does, and the depth falls.
-- Assumes nothing.
use native.Mathlib.Omega.{arith}
use native.Mathlib.Nat.{sub-zero}
use mathlib.Core.Path.{sym, ◌∙◌}
use Rattle.layout.proofs.Skips.{ends_done, ends_out, ends_step, nested_end_none, nested_end_disjunctions, disjunction_end_deep}
use Rattle.layout.proofs.Skips.{disjunction_end_none, disjunction_end_alternatives}
use Rattle.layout.proofs.skipping.+skip_disjunction_skip_nested.Goals as goal

pub skip_disjunction-returns-then-left-eq0 : goal.skip_disjunction-returns-then-left-eq0
skip_disjunction-returns-then-left-eq0 t c = disjunction_end_deep _ _ _ (omega arith)

pub skip_disjunction-returns-then-ws-p : goal.skip_disjunction-returns-then-ws-p
skip_disjunction-returns-then-ws-p t c = disjunction_end_none _ _ _ (omega arith) (omega arith)

pub skip_disjunction-loop-init : goal.skip_disjunction-loop-init
skip_disjunction-loop-init t c = rw sub-zero (disjunction_end_alternatives _ _ _ (omega arith) (omega arith))

pub skip_disjunction-returns-then-ws-at : goal.skip_disjunction-returns-then-ws-at
skip_disjunction-returns-then-ws-at t c = ends_out _ _ _ _ (omega arith) (omega arith) ∙ sym c.loop.invariant

pub skip_disjunction-skip_nested-at-requires : goal.skip_disjunction-skip_nested-at-requires
skip_disjunction-skip_nested-at-requires t c = (omega arith, tt)

pub skip_disjunction-loop-preserved : goal.skip_disjunction-loop-preserved
skip_disjunction-loop-preserved t c = c.loop.invariant
    ∙ ends_step _ _ _ _ _ _ (omega arith) (omega arith) c.skip_nested-at.ensures

pub skip_disjunction-returns : goal.skip_disjunction-returns
skip_disjunction-returns t c = ends_done _ _ _ _ (omega arith) ∙ sym c.loop.invariant

pub skip_nested-returns-then-ws-q : goal.skip_nested-returns-then-ws-q
skip_nested-returns-then-ws-q t c = nested_end_none _ _ _ _ c.skip_graph-q.ensures (omega arith)

pub skip_nested-loop-init : goal.skip_nested-loop-init
skip_nested-loop-init t c = rw sub-zero (nested_end_disjunctions _ _ _ _ c.skip_graph-q.ensures (omega arith))

pub skip_nested-returns-then-ws-at : goal.skip_nested-returns-then-ws-at
skip_nested-returns-then-ws-at t c = ends_out _ _ _ _ (omega arith) (omega arith) ∙ sym c.loop.invariant

pub skip_nested-skip_disjunction-at-requires : goal.skip_nested-skip_disjunction-at-requires
skip_nested-skip_disjunction-at-requires t c = (omega arith, tt)

pub skip_nested-loop-preserved : goal.skip_nested-loop-preserved
skip_nested-loop-preserved t c = c.loop.invariant
    ∙ ends_step _ _ _ _ _ _ (omega arith) (omega arith) c.skip_disjunction-at.ensures

pub skip_nested-returns : goal.skip_nested-returns
skip_nested-returns t c = ends_done _ _ _ _ (omega arith) ∙ sym c.loop.invariant
