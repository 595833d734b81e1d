-- `suite_reading::text::blank` meets its contract: what is written so far and what the rest gives are the whole.
-- Assumes nothing.
use native.Mathlib.Omega.{arith}
use Rattle.suite_reading.proofs.Texts.{blank_begins, blank_goes, blank_ends}
use Rattle.suite_reading.proofs.text.blank.Goals as goal

pub loop-i-init : goal.loop-i-init
loop-i-init c = blank_begins c.args.text.now c.args.out.now c.requires

pub loop-i-preserved : goal.loop-i-preserved
loop-i-preserved c =
    blank_goes c.args.text.now c.loop-i.out c.loop-i.named c.loop-i.i c.loop-i.invariant c.loop-i-test.true c.blank_byte.result c.goes_on-named.result
    c.blank_byte.ensures c.goes_on-named.ensures

pub returns : goal.returns
returns c = blank_ends c.args.text.now c.loop-i.out c.loop-i.named c.loop-i.i c.loop-i.invariant (omega arith)
