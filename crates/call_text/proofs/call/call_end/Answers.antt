-- `call_text::call::call_end` meets its contract.
-- Assumes nothing.
use mathlib.Core.Path.{sym, ap, ◌∙◌}
use lib.ListN.{drop}
use Rattle.call_text.proofs.Tokens.{meant, said}
use Rattle.call_text.proofs.Leading.{leads_stops, leads_without, leads_short, leads_on}
use Rattle.call_text.proofs.call.call_end.Goals as goal

pub returns-in_default : goal.returns-in_default
returns-in_default c =
    leads_stops (drop c.args.p c.args.text.now) c.args.text.now c.read_token.result
    (said c.args.text.now c.args.p c.read_token.result c.read_token.ensures) c.in_default.not-Is

pub returns-in_err-one : goal.returns-in_err-one
returns-in_err-one c =
    let mode = ap (meant c.args.text.now) (sym c.in-Is.is) ∙ said c.args.text.now c.args.p c.read_token.result c.read_token.ensures in
    rw c.from_residual.ensures (leads_without _ c.args.text.now c.in-Is.value c.in-Is.next mode c.in_err-one.ensures)

pub returns-in_err-two : goal.returns-in_err-two
returns-in_err-two c =
    let mode = ap (meant c.args.text.now) (sym c.in-Is.is) ∙ said c.args.text.now c.args.p c.read_token.result c.read_token.ensures in
    rw c.from_residual-in_err-two.ensures
    (leads_short _ c.args.text.now c.in-Is.value c.in-Is.next mode c.in_ok-one.one c.in_ok-one.ensures c.in_err-two.ensures)

pub returns : goal.returns
returns c =
    let mode = ap (meant c.args.text.now) (sym c.in-Is.is) ∙ said c.args.text.now c.args.p c.read_token.result c.read_token.ensures in
    leads_on _ c.args.text.now c.in-Is.value c.in-Is.next mode c.in_ok-one.one c.in_ok-one.ensures c.in_ok-two.two c.in_ok-two.ensures
