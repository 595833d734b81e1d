-- `call_text::number::read_more` meets its contract: what is left of the text reads as the whole does.
-- Assumes nothing.
use Prim.Native.Nat.{◌+◌, ◌*◌, ◌-◌}
use native.Mathlib.Omega.{arith}
use mathlib.Core.Path.{◌≡◌, sym, ap, ◌∙◌}
use lib.ListN.{length, get_or}
use borrow.Author.Tests.{lt-ltb, le-ltb}
use Rattle.call_text.specs.Token.{largest, placed}
use Rattle.call_text.proofs.Tokens.{digit_range, more_end, more_digit, more_large, more_blank, more_other, placed_by}
use Rattle.call_text.proofs.number.read_more.Goals as goal

pub returns-then-is_blank : goal.returns-then-is_blank
returns-then-is_blank c =
    let other = sym c.is_digit.ensures ∙ c.if-not-is_digit.true in
    let blank = sym c.is_blank.ensures ∙ c.if-is_blank.true in
    placed_by c.args.text.now c.loop-at.value c.loop-at.at _ (omega arith)
    (more_blank c.args.text.now c.loop-at.at c.loop-at-test.true c.loop-at.value other blank ∙ c.loop-at.invariant.1)

pub returns-else-is_blank : goal.returns-else-is_blank
returns-else-is_blank c =
    let other = sym c.is_digit.ensures ∙ c.if-not-is_digit.true in
    let dark = sym c.is_blank.ensures ∙ c.if-is_blank.false in
    ap (placed c.args.text.now)
    (more_other c.args.text.now c.loop-at.at c.loop-at-test.true c.loop-at.value other dark ∙ c.loop-at.invariant.1)

pub overflow_sub-c : goal.overflow_sub-c
overflow_sub-c c = (digit_range _ (sym c.is_digit.ensures ∙ c.if-not-is_digit.false)).0

pub returns-in_default : goal.returns-in_default
returns-in_default c =
    let digit = sym c.is_digit.ensures ∙ c.if-not-is_digit.false in
    let large = lt-ltb largest (c.loop-at.value * 10 + (get_or c.args.text.now c.loop-at.at 0 - 48))
    (omega (arith, c.from.ensures, c.from-in-loop-at.ensures, c.in_default.ensures)) in
    ap (placed c.args.text.now)
    (more_large c.args.text.now c.loop-at.at c.loop-at-test.true c.loop-at.value digit large ∙ c.loop-at.invariant.1)

pub loop-at-preserved : goal.loop-at-preserved
loop-at-preserved c =
    let digit = sym c.is_digit.ensures ∙ c.if-not-is_digit.false in
    let value : c.in-Ok.next ≡ c.loop-at.value * 10 + (get_or c.args.text.now c.loop-at.at 0 - 48) =
    omega (arith, c.in-Ok.ensures, c.from.ensures, c.from-in-loop-at.ensures) in
    let fits = le-ltb largest (c.loop-at.value * 10 + (get_or c.args.text.now c.loop-at.at 0 - 48)) (omega (arith, c.in-Ok.ensures)) in (
      omega (arith, c.in-Ok.ensures),
      rw value (sym (more_digit c.args.text.now c.loop-at.at c.loop-at-test.true c.loop-at.value digit fits) ∙ c.loop-at.invariant.1),
    )

pub returns : goal.returns
returns c =
    let end : c.loop-at.at ≡ length c.args.text.now = omega arith in
    placed_by c.args.text.now c.loop-at.value _ _ (omega arith)
    (rw (← end) (more_end c.args.text.now c.loop-at.at (omega arith) c.loop-at.value ∙ c.loop-at.invariant.1))
