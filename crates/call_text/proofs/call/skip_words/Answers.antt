-- `call_text::call::skip_words` meets its contract: after the words that are left comes what comes after the whole run.
-- Assumes nothing.
use Prim.Native.Nat.{◌+◌, ◌-◌}
use native.Mathlib.Omega.{arith}
use mathlib.Core.Path.{◌≡◌, refl, sym, ap, ◌∙◌}
use lib.ListN.{drop}
use Rattle.call_text.specs.Call.{words_in}
use Rattle.call_text.proofs.Tokens.{meant, said}
use Rattle.call_text.proofs.Runs.{skip_ends, skip_stops, skip_goes}
use Rattle.call_text.proofs.call.skip_words.Goals as goal

pub returns-in_default : goal.returns-in_default
returns-in_default c =
    skip_stops c.args.text.now (words_in c.args.count (drop c.args.p c.args.text.now)) c.loop.at _ c.loop.invariant (omega arith)
    c.read_token.result (said c.args.text.now c.loop.at c.read_token.result c.read_token.ensures) c.in_default.not-Is

pub loop-preserved : goal.loop-preserved
loop-preserved c =
    let left : c.args.count - (c.loop.counter + 1) ≡ c.args.count - c.loop.counter - 1 = omega arith in
    rw left (skip_goes c.args.text.now (words_in c.args.count (drop c.args.p c.args.text.now)) c.loop.at _ c.loop.invariant (omega arith)
    c.in-Is.value c.in-Is.next
    (ap (meant c.args.text.now) (sym c.in-Is.is) ∙ said c.args.text.now c.loop.at c.read_token.result c.read_token.ensures))

pub returns : goal.returns
returns c =
    (c.requires, refl, skip_ends c.args.text.now (words_in c.args.count (drop c.args.p c.args.text.now)) c.loop.at _ c.loop.invariant (omega arith))
