-- `suite_reading::tests::find_test` meets its contract.
-- Assumes nothing.
use mathlib.Core.Path.{sym, ap, ◌∙◌}
use lib.ListN.{drop}
use Rattle.call_text.proofs.Tokens.{meant, said}
use Rattle.suite_reading.proofs.Found.{lacks_mode, lacks_number, lacks_readings, finds_rest}
use Rattle.suite_reading.proofs.tests.find_test.Goals as goal

pub returns-in_default : goal.returns-in_default
returns-in_default c =
    lacks_mode c.args.text.now (drop c.args.p c.args.text.now) c.read_token.result
    (said c.args.text.now c.args.p c.read_token.result c.read_token.ensures) c.in_default.not-Is

pub returns-in_default-read_token : goal.returns-in_default-read_token
returns-in_default-read_token c =
    let mode = ap (meant c.args.text.now) (sym c.in-Is.is) ∙ said c.args.text.now c.args.p c.read_token.result c.read_token.ensures in
    lacks_number c.args.text.now (drop c.args.p c.args.text.now) c.in-Is.mode c.in-Is.named mode c.read_token-2.result
    (said c.args.text.now c.in-Is.named c.read_token-2.result c.read_token-2.ensures) c.in_default-read_token.not-Is

pub returns-in_default-read_token-2 : goal.returns-in_default-read_token-2
returns-in_default-read_token-2 c =
    let mode = ap (meant c.args.text.now) (sym c.in-Is.is) ∙ said c.args.text.now c.args.p c.read_token.result c.read_token.ensures in
    let number = ap (meant c.args.text.now) (sym c.in-Is-read_token.is)
    ∙ said c.args.text.now c.in-Is.named c.read_token-2.result c.read_token-2.ensures in
    lacks_readings c.args.text.now (drop c.args.p c.args.text.now) c.in-Is.mode c.in-Is.named mode c.in-Is-read_token.number
    c.in-Is-read_token.third number c.read_token-3.result
    (said c.args.text.now c.in-Is-read_token.third c.read_token-3.result c.read_token-3.ensures) c.in_default-read_token-2.not-Is

pub returns : goal.returns
returns c =
    let mode = ap (meant c.args.text.now) (sym c.in-Is.is) ∙ said c.args.text.now c.args.p c.read_token.result c.read_token.ensures in
    let number = ap (meant c.args.text.now) (sym c.in-Is-read_token.is)
    ∙ said c.args.text.now c.in-Is.named c.read_token-2.result c.read_token-2.ensures in
    let readings = ap (meant c.args.text.now) (sym c.in-Is-read_token-2.is)
    ∙ said c.args.text.now c.in-Is-read_token.third c.read_token-3.result c.read_token-3.ensures in
    finds_rest c.args.text.now (drop c.args.p c.args.text.now) c.in-Is.mode c.in-Is.named mode c.in-Is-read_token.number
    c.in-Is-read_token.third number c.in-Is-read_token-2.readings c.in-Is-read_token-2.words readings c.find_descriptions.result
    c.find_descriptions.ensures
