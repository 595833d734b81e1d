-- `call_text::call::read_call` meets its contract.
-- Assumes nothing.
use mathlib.Core.Path.{refl, sym, ap, ◌∙◌}
use lib.ListN.{drop}
use Rattle.call_text.proofs.Tokens.{meant, said}
use Rattle.call_text.proofs.Calls.{unheard, short_first, short_second, long_text, without_mode, with_mode}
use Rattle.call_text.proofs.call.read_call.Goals as goal

pub returns-then-first-lt-COUNT_LIMIT : goal.returns-then-first-lt-COUNT_LIMIT
returns-then-first-lt-COUNT_LIMIT c = unheard _ _ _ _ (short_first _ _ _ c.if-first-lt-COUNT_LIMIT.true) refl

pub returns-then-second-lt-COUNT_LIMIT : goal.returns-then-second-lt-COUNT_LIMIT
returns-then-second-lt-COUNT_LIMIT c =
    unheard _ _ _ _ (short_second _ _ _ c.if-first-lt-COUNT_LIMIT.false c.if-second-lt-COUNT_LIMIT.true) refl

pub returns-then-text-gt-TEXT_LIMIT : goal.returns-then-text-gt-TEXT_LIMIT
returns-then-text-gt-TEXT_LIMIT c =
    unheard _ _ _ _
    (long_text _ _ c.args.text.now c.if-first-lt-COUNT_LIMIT.false c.if-second-lt-COUNT_LIMIT.false c.if-text-gt-TEXT_LIMIT.true) refl

pub returns-in_default : goal.returns-in_default
returns-in_default c =
    unheard _ _ _ _
    (without_mode _ _ c.args.text.now c.if-first-lt-COUNT_LIMIT.false c.if-second-lt-COUNT_LIMIT.false c.if-text-gt-TEXT_LIMIT.false
    c.read_token.result (said c.args.text.now 0 c.read_token.result c.read_token.ensures) c.in_default.not-Is) refl

pub returns : goal.returns
returns c =
    with_mode _ _ c.args.text.now c.if-first-lt-COUNT_LIMIT.false c.if-second-lt-COUNT_LIMIT.false c.if-text-gt-TEXT_LIMIT.false
    c.args.first.now c.args.second.now _ _ c.read_inputs.result c.in-Is.value (drop c.in-Is.next c.args.text.now)
    (ap (meant c.args.text.now) (sym c.in-Is.is) ∙ said c.args.text.now 0 c.read_token.result c.read_token.ensures) c.read_inputs.ensures
