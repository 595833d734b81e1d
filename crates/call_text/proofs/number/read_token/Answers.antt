-- `call_text::number::read_token` meets its contract: what is left of the text reads as the whole does.
-- Assumes nothing.
use native.Mathlib.Omega.{arith}
use mathlib.Core.Path.{sym, ap, ◌∙◌}
use Rattle.call_text.specs.Token.{placed}
use Rattle.call_text.proofs.Tokens.{token_end, token_blank, token_digit, token_other}
use Rattle.call_text.proofs.number.read_token.Goals as goal

pub loop-at-preserved : goal.loop-at-preserved
loop-at-preserved c =
    sym (token_blank c.args.text.now c.loop-at.at c.loop-at-test.true (sym c.is_blank.ensures ∙ c.if-not-is_blank.false))
    ∙ c.loop-at.invariant

pub returns-then-is_digit : goal.returns-then-is_digit
returns-then-is_digit c =
    let dark = sym c.is_blank.ensures ∙ c.if-not-is_blank.true in
    let digit = sym c.is_digit.ensures ∙ c.if-is_digit.true in
    c.read_more.ensures
    ∙ ap (placed c.args.text.now) (token_digit c.args.text.now c.loop-at.at c.loop-at-test.true dark digit ∙ c.loop-at.invariant)

pub returns-else-is_digit : goal.returns-else-is_digit
returns-else-is_digit c =
    let dark = sym c.is_blank.ensures ∙ c.if-not-is_blank.true in
    let other = sym c.is_digit.ensures ∙ c.if-is_digit.false in
    ap (placed c.args.text.now) (token_other c.args.text.now c.loop-at.at c.loop-at-test.true dark other ∙ c.loop-at.invariant)

pub returns : goal.returns
returns c = ap (placed c.args.text.now) (token_end c.args.text.now c.loop-at.at (omega arith) ∙ c.loop-at.invariant)
