-- `call_text::call::read_inputs` meets its contract.
-- Assumes nothing.
use mathlib.Core.Path.{refl, sym, ◌∙◌}
use lib.ListN.{drop}
use Rattle.call_text.proofs.Calls.{unheard, without_first, without_second, with_more, with_both}
use Rattle.call_text.proofs.call.read_inputs.Goals as goal

pub returns-in_err-one : goal.returns-in_err-one
returns-in_err-one c =
    unheard _ _ _ _ (without_first c.args.mode c.args.text.now (drop c.args.p c.args.text.now) c.in_err-one.ensures) c.from_residual.ensures

pub returns-in_err-two : goal.returns-in_err-two
returns-in_err-two c =
    unheard _ _ _ _
    (without_second c.args.mode c.args.text.now (drop c.args.p c.args.text.now) c.in_ok-one.one c.in_ok-one.ensures c.in_err-two.ensures)
    c.from_residual-in_err-two.ensures

pub returns-then-not-is_over : goal.returns-then-not-is_over
returns-then-not-is_over c =
    unheard _ _ _ _
    (with_more c.args.mode c.args.text.now (drop c.args.p c.args.text.now) c.in_ok-one.one c.in_ok-one.ensures c.in_ok-two.two c.in_ok-two.ensures
    (sym c.if-not-is_over.true ∙ c.is_over.ensures))
    refl

pub returns : goal.returns
returns c =
    with_both c.args.mode c.args.text.now (drop c.args.p c.args.text.now) c.in_ok-one.one c.in_ok-one.ensures c.in_ok-two.two c.in_ok-two.ensures
    (sym c.if-not-is_over.false ∙ c.is_over.ensures) c.args.first.now c.args.second.now _ _ c.read_words.ensures c.read_words-2.ensures
