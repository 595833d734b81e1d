-- `fit::testing::test_description` and `fit::testing::test_disjunction`, which call each other, meet their contracts: the structure
-- satisfies the whole when it satisfies what is left, and the depth falls.
-- Assumes nothing.
use native.Mathlib.Omega.{arith}
use native.Mathlib.Nat.{sub-zero}
use mathlib.Core.Path.{◌≡◌}
use Rattle.fit.specs.Parts.{graphIn}
use Rattle.fit.specs.Testing.{description_subject, disjunction_subject}
use Rattle.fit.proofs.Things.{left_asked, graph_first, graph_fails, after_graph, disjunctions_start, disjunction_next}
use Rattle.fit.proofs.Things.{disjunctions_step, disjunctions_stop, disjunctions_end, its_disjunctions}
use Rattle.fit.proofs.Alternatives.{disjunction_there, alternatives_start, alternative_next, alternatives_step, alternatives_fit}
use Rattle.fit.proofs.Alternatives.{alternatives_end, its_alternatives}
use Prim.Native.Nat.{◌+◌, ◌-◌}
use lib.ListN.{get_or}
use Rattle.fit.proofs.testing.+test_description_test_disjunction.Goals as goal

pub test_description-test_graph-requires-clause-testable : goal.test_description-test_graph-requires-clause-testable
test_description-test_graph-requires-clause-testable t c =
    graph_first _ (graphIn c.args.structure.words.now 0) c.args.left _ c.requires.testable

pub test_description-returns-in_err-q : goal.test_description-returns-in_err-q
test_description-returns-in_err-q t c =
    rw c.from_residual.ensures (graph_fails _ (graphIn c.args.structure.words.now 0) _ _ _ c.in_err-q.was c.test_graph.ensures)

pub test_description-overflow_add-at : goal.test_description-overflow_add-at
test_description-overflow_add-at t c =
    let H = graphIn c.args.structure.words.now 0 in
    omega (arith, after_graph _ H c.args.left _ _ _ c.in_ok-q.was c.test_graph.ensures c.requires.testable)

pub test_description-offset_bounds-ws-q : goal.test_description-offset_bounds-ws-q
test_description-offset_bounds-ws-q t c =
    let H = graphIn c.args.structure.words.now 0 in
    omega (arith, after_graph _ H c.args.left _ _ _ c.in_ok-q.was c.test_graph.ensures c.requires.testable)

pub test_description-bounds-ws-q : goal.test_description-bounds-ws-q
test_description-bounds-ws-q t c =
    let H = graphIn c.args.structure.words.now 0 in
    omega (arith, after_graph _ H c.args.left _ _ _ c.in_ok-q.was c.test_graph.ensures c.requires.testable)

pub test_description-loop-init : goal.test_description-loop-init
test_description-loop-init t c =
    rw sub-zero (disjunctions_start _ (graphIn c.args.structure.words.now 0) _ _ _ _ c.in_ok-q.was c.test_graph.ensures)

pub test_description-test_disjunction-requires : goal.test_description-test_disjunction-requires
test_description-test_disjunction-requires t c =
    let H = graphIn c.args.structure.words.now 0 in
    let left = get_or c.args.ws.now c.in_ok-q.q 0 - c.loop.counter in (
      omega arith,
      (
        c.requires.noted,
        disjunction_next _ H c.args.left left _ (omega arith)
            (left_asked _ (description_subject H c.args.left) (its_disjunctions H c.args.left left) _ _ c.requires.testable c.loop.invariant),
      ),
    )

pub test_description-returns-in_err-at : goal.test_description-returns-in_err-at
test_description-returns-in_err-at t c =
    let H = graphIn c.args.structure.words.now 0 in
    rw c.from_residual-in_err-at.ensures (disjunctions_stop _ H _ _ _ (description_subject H c.args.left) _ c.loop.invariant _
    c.in_err-at.was c.test_disjunction.ensures (omega arith))

pub test_description-loop-preserved : goal.test_description-loop-preserved
test_description-loop-preserved t c =
    let H = graphIn c.args.structure.words.now 0 in
    let count = get_or c.args.ws.now c.in_ok-q.q 0 in
    let e : count - (c.loop.counter + 1) ≡ count - c.loop.counter - 1 = omega arith in
    rw e (disjunctions_step _ H _ _ _ (description_subject H c.args.left) _ c.loop.invariant _ _ c.in_ok-at.was c.test_disjunction.ensures
    (omega arith))

pub test_description-returns : goal.test_description-returns
test_description-returns t c =
    let H = graphIn c.args.structure.words.now 0 in
    disjunctions_end _ H _ _ _ (description_subject H c.args.left) _ c.loop.invariant (omega arith)

pub test_disjunction-overflow_add-at : goal.test_disjunction-overflow_add-at
test_disjunction-overflow_add-at t c =
    let H = graphIn c.args.structure.words.now 0 in
    omega (arith, (disjunction_there _ H c.args.left _ c.requires.testable).1)

pub test_disjunction-offset_bounds-ws-p : goal.test_disjunction-offset_bounds-ws-p
test_disjunction-offset_bounds-ws-p t c =
    let H = graphIn c.args.structure.words.now 0 in
    omega (arith, (disjunction_there _ H c.args.left _ c.requires.testable).1)

pub test_disjunction-bounds-ws-p : goal.test_disjunction-bounds-ws-p
test_disjunction-bounds-ws-p t c =
    let H = graphIn c.args.structure.words.now 0 in
    omega (arith, (disjunction_there _ H c.args.left _ c.requires.testable).1)

pub test_disjunction-loop-others-init : goal.test_disjunction-loop-others-init
test_disjunction-loop-others-init t c = alternatives_start _ (graphIn c.args.structure.words.now 0) _ _

pub test_disjunction-overflow_sub-left : goal.test_disjunction-overflow_sub-left
test_disjunction-overflow_sub-left t c =
    let H = graphIn c.args.structure.words.now 0 in
    omega (arith, (disjunction_there _ H c.args.left _ c.requires.testable).0)

pub test_disjunction-test_description-requires : goal.test_disjunction-test_description-requires
test_disjunction-test_description-requires t c =
    let H = graphIn c.args.structure.words.now 0 in
    let some = (disjunction_there _ H c.args.left _ c.requires.testable).0 in (
      omega arith,
      (
        c.requires.noted,
        alternative_next _ H (c.args.left - 1) c.loop-others.others _ (omega arith)
            (left_asked _ (disjunction_subject H c.args.left) (its_alternatives H (c.args.left - 1) c.loop-others.others) _ _
            c.requires.testable c.loop-others.invariant),
      ),
    )

pub test_disjunction-returns-in-Some : goal.test_disjunction-returns-in-Some
test_disjunction-returns-in-Some t c =
    let H = graphIn c.args.structure.words.now 0 in
    alternatives_fit _ H _ _ _ _ c.test_description.ensures (omega arith) (disjunction_subject H c.args.left) _ c.loop-others.invariant _ _
    c.in-Some.is c.skip_alternatives.ensures

pub test_disjunction-loop-others-preserved : goal.test_disjunction-loop-others-preserved
test_disjunction-loop-others-preserved t c =
    let H = graphIn c.args.structure.words.now 0 in
    alternatives_step _ H _ _ _ _ c.test_description.ensures (omega arith) (disjunction_subject H c.args.left) _ c.loop-others.invariant _
    (cc) c.skip_description-at.ensures

pub test_disjunction-returns : goal.test_disjunction-returns
test_disjunction-returns t c =
    let H = graphIn c.args.structure.words.now 0 in
    alternatives_end _ H _ _ _ (disjunction_subject H c.args.left) _ c.loop-others.invariant (omega arith)
