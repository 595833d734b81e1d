-- `suite_reading::tests::judge_tests` meets its contract: the tests that are left are judged as all are.
-- Assumes nothing.
use Prim.Native.Nat.{◌+◌, ◌-◌}
use native.Mathlib.Omega.{arith}
use mathlib.Core.Path.{◌≡◌, refl, ap, ◌∙◌}
use lib.ListN.{drop}
use Rattle.suite.specs.Suite.{number_of}
use Rattle.suite_reading.proofs.Found.{judged_fine, judged_more, judged_stops, judged_goes, judges, and_then_after}
use Rattle.suite_reading.proofs.tests.judge_tests.Goals as goal

pub returns-in_err-place : goal.returns-in_err-place
returns-in_err-place c =
    rw c.from_residual.ensures (judges c.args.n (drop c.args.p c.args.text.now) _
    (judged_stops c.args.text.now _ (number_of c.loop.verdict) c.loop.at _ c.loop.invariant (omega arith) _ c.in_err-place.ensures refl))

pub loop-preserved : goal.loop-preserved
loop-preserved c =
    let left : c.args.n - (c.loop.counter + 1) ≡ c.args.n - c.loop.counter - 1 = omega arith in
    rw left (judged_goes c.args.text.now _ (number_of c.loop.verdict) c.loop.at _ c.loop.invariant (omega arith) _ c.in_ok-place.ensures
    c.in_ok-place.place refl c.expected.result c.expected.ensures _
    (ap number_of c.and-verdict.ensures ∙ and_then_after c.loop.verdict c.judged.result 0 c.expected.result c.judged.ensures))

pub returns-then-is_over : goal.returns-then-is_over
returns-then-is_over c =
    judges c.args.n (drop c.args.p c.args.text.now) _
    (judged_fine c.args.text.now _ (number_of c.loop.verdict) c.loop.at _ c.loop.invariant (omega arith) c.is_over.result c.is_over.ensures
    c.if-is_over.true)

pub returns : goal.returns
returns c =
    judges c.args.n (drop c.args.p c.args.text.now) _
    (judged_more c.args.text.now _ (number_of c.loop.verdict) c.loop.at _ c.loop.invariant (omega arith) c.is_over.result c.is_over.ensures
    c.if-is_over.false)
