-- `call_text::call::read_words` meets its contract: the words so far stand in dst, and those left read as the whole does.
-- Assumes nothing.
use native.Mathlib.Omega.{arith}
use mathlib.Core.Path.{sym, ap, ◌∙◌}
use Rattle.call_text.proofs.Tokens.{meant, said}
use Rattle.call_text.proofs.Runs.{run_begins, run_ends, run_stops, run_goes}
use Rattle.call_text.proofs.call.read_words.Goals as goal

pub loop-i-init : goal.loop-i-init
loop-i-init c = run_begins c.args.text.now c.args.p c.args.count c.args.dst.now

pub returns-in_default : goal.returns-in_default
returns-in_default c =
    run_stops c.args.text.now c.args.p c.args.count c.args.dst.now c.loop-i.dst c.loop-i.at c.loop-i.i c.loop-i.invariant c.loop-i-test.true
    c.read_token.result (said c.args.text.now c.loop-i.at c.read_token.result c.read_token.ensures) c.in_default.not-Is

pub loop-i-preserved : goal.loop-i-preserved
loop-i-preserved c =
    run_goes c.args.text.now c.args.p c.args.count c.args.dst.now c.loop-i.dst c.loop-i.at c.loop-i.i c.loop-i.invariant c.loop-i-test.true
    c.in-Is.value c.in-Is.next (omega (arith, c.loop-i.invariant.size))
    (ap (meant c.args.text.now) (sym c.in-Is.is) ∙ said c.args.text.now c.loop-i.at c.read_token.result c.read_token.ensures)

pub returns : goal.returns
returns c =
    run_ends c.args.text.now c.args.p c.args.count c.args.dst.now c.loop-i.dst c.loop-i.at c.loop-i.i c.loop-i.invariant (omega arith)
