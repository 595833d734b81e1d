-- `call_text::call::find_counted` meets its contract.
-- Assumes nothing.
use mathlib.Core.Path.{refl, sym, ap, ◌∙◌}
use lib.ListN.{drop}
use Rattle.call_text.proofs.Tokens.{meant, said}
use Rattle.call_text.proofs.Runs.{counted_stops, counted_many, counted_finds}
use Rattle.call_text.proofs.call.find_counted.Goals as goal

pub returns-in_default : goal.returns-in_default
returns-in_default c =
    counted_stops (drop c.args.p c.args.text.now) c.args.text.now c.read_token.result
    (said c.args.text.now c.args.p c.read_token.result c.read_token.ensures) c.in_default.not-Is

pub returns-then-count-gt-COUNT_LIMIT : goal.returns-then-count-gt-COUNT_LIMIT
returns-then-count-gt-COUNT_LIMIT c =
    let e = ap (meant c.args.text.now) (sym c.in-Is.is) ∙ said c.args.text.now c.args.p c.read_token.result c.read_token.ensures in
    counted_many (drop c.args.p c.args.text.now) c.in-Is.value (drop c.in-Is.next c.args.text.now) e c.if-count-gt-COUNT_LIMIT.true

pub returns : goal.returns
returns c =
    let e = ap (meant c.args.text.now) (sym c.in-Is.is) ∙ said c.args.text.now c.args.p c.read_token.result c.read_token.ensures in
    counted_finds (drop c.args.p c.args.text.now) c.in-Is.value (drop c.in-Is.next c.args.text.now) e
    c.args.text.now c.in-Is.value c.skip_words.result refl c.if-count-gt-COUNT_LIMIT.false c.skip_words.ensures
