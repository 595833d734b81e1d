-- `suite_reading::tests::find_descriptions` meets its contract.
-- Assumes nothing.
use lib.ListN.{drop}
use Rattle.suite_reading.proofs.Found.{lacks_first, lacks_second, finds_both}
use Rattle.suite_reading.proofs.tests.find_descriptions.Goals as goal

pub returns-in_err-one : goal.returns-in_err-one
returns-in_err-one c =
    rw c.from_residual.ensures
    (lacks_first c.args.text.now c.args.named c.args.mode c.args.number c.args.readings (drop c.args.p c.args.text.now) c.in_err-one.ensures)

pub returns-in_err-two : goal.returns-in_err-two
returns-in_err-two c =
    rw c.from_residual-in_err-two.ensures
    (lacks_second c.args.text.now c.args.named c.args.mode c.args.number c.args.readings (drop c.args.p c.args.text.now) c.in_ok-one.one
    c.in_ok-one.ensures c.in_err-two.ensures)

pub returns : goal.returns
returns c =
    finds_both c.args.text.now c.args.named c.args.mode c.args.number c.args.readings (drop c.args.p c.args.text.now) c.in_ok-one.one
    c.in_ok-one.ensures c.in_ok-two.two c.in_ok-two.ensures
