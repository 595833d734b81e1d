-- `suite::checks::checked` meets its contract. The loop's invariant: of the records so far none is refused. Assumes nothing.
use Rattle.std.proofs.Common.{◌≡◌, ◌+◌, length, arith, refl, sym, ap, ◌∙◌}
use Rattle.std.proofs.lemmas.Result.{err_from_is_err_and}
use Rattle.suite.specs.Suite.{table_fault}
use Rattle.suite.proofs.Runs.{refused, found_none, found_fresh, found_to_end}
use Rattle.suite.proofs.checks.checked.Goals as goal

pub returns-in_err-counted : goal.returns-in_err-counted
returns-in_err-counted c =
    let p = err_from_is_err_and c.from_residual.result c.from_residual.ensures.1 in
    let e = c.in_err-counted.ensures ∙ found_none c.args.space c.args.tests.now _ refl in
    rw (p.1, p.2) (e ∙ found_to_end c.args.space c.args.tests.now 0 _ (omega arith) (λ z. refused c.in_err-counted.field-0.0 (e ∙ z)))

pub loop-test-init : goal.loop-test-init
loop-test-init c = sym (c.in_ok-counted.ensures ∙ found_none c.args.space c.args.tests.now _ refl)

pub returns-in_err-judged : goal.returns-in_err-judged
returns-in_err-judged c =
    let p = err_from_is_err_and c.from_residual-in_err-judged.result c.from_residual-in_err-judged.ensures.1 in
    let e = c.in_err-judged.ensures ∙ found_fresh c.args.space c.args.tests.now c.loop-test.test-index c.loop-test.invariant in
    rw (p.1, p.2)
    (e ∙ found_to_end c.args.space c.args.tests.now (c.loop-test.test-index + 1) _ (omega arith)
    (λ z. refused c.in_err-judged.field-0.0 (e ∙ z)))

pub loop-test-preserved : goal.loop-test-preserved
loop-test-preserved c =
    sym (c.in_ok-judged.ensures ∙ found_fresh c.args.space c.args.tests.now c.loop-test.test-index c.loop-test.invariant)

pub returns : goal.returns
returns c =
    let e : c.loop-test.test-index ≡ length c.args.tests.now = omega arith in
    sym c.loop-test.invariant ∙ ap (table_fault c.args.space c.args.tests.now) e
