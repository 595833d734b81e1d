-- `fit::fit` meets its contract: each answer is the one that the table gives.
-- Assumes nothing.
use native.Mathlib.Omega.{arith}
use mathlib.Core.Logic.{inl, inr}
use Rattle.theory.specs.FitTest.{three, four, five}
use Rattle.fit.proofs.Whole.{no_image, graph_inside, has_disjunctions, test_asked, tested_number}
use Rattle.fit.proofs.fit.Goals as goal

pub returns-then-structure-gt-INPUT_LIMIT : goal.returns-then-structure-gt-INPUT_LIMIT
returns-then-structure-gt-INPUT_LIMIT c = three (inl (omega arith))

pub returns-then-description-gt-INPUT_LIMIT : goal.returns-then-description-gt-INPUT_LIMIT
returns-then-description-gt-INPUT_LIMIT c = three (inr (omega arith))

pub returns-then-not-judge : goal.returns-then-not-judge
returns-then-not-judge c = four (omega arith) (omega arith) (no_image _ _ (cc) c.judge.ensures)

pub returns-then-not-judge-2 : goal.returns-then-not-judge-2
returns-then-not-judge-2 c = five (omega arith) (omega arith) (c.judge.ensures.sound (cc)) (no_image _ _ (cc) c.judge-2.ensures)

pub offset_bounds-structure-end : goal.offset_bounds-structure-end
offset_bounds-structure-end c = omega (arith, graph_inside _ (c.judge.ensures.sound (cc)) _ c.skip_graph-end.ensures)

pub bounds-structure-end : goal.bounds-structure-end
bounds-structure-end c = omega (arith, graph_inside _ (c.judge.ensures.sound (cc)) _ c.skip_graph-end.ensures)

pub returns-then-structure-end-gt0 : goal.returns-then-structure-end-gt0
returns-then-structure-end-gt0 c =
    has_disjunctions _ _ (omega arith) (omega arith) (c.judge.ensures.sound (cc)) (c.judge-2.ensures.sound (cc)) _ c.skip_graph-end.ensures
    (omega arith)

pub satisfied-requires : goal.satisfied-requires
satisfied-requires c =
    test_asked _ _ (omega arith) (omega arith) (c.judge.ensures.sound (cc)) (c.judge-2.ensures.sound (cc)) _ c.skip_graph-end.ensures
    (omega arith)

pub returns : goal.returns
returns c =
    tested_number _ _ (omega arith) (omega arith) (c.judge.ensures.sound (cc)) (c.judge-2.ensures.sound (cc)) _ c.skip_graph-end.ensures
    (omega arith) _ c.satisfied.ensures
