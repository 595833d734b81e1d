-- `suite_reading::text::find_name` meets its contract: what is passed and what is left up to the newline are the name.
-- Assumes nothing.
use native.Mathlib.Omega.{arith}
use mathlib.Core.Path.{◌≡◌}
use lib.ListN.{length}
use Rattle.suite_reading.proofs.Texts.{name_begins, name_ends, name_stops, name_goes}
use Rattle.suite_reading.proofs.text.find_name.Goals as goal

pub loop-to-init : goal.loop-to-init
loop-to-init c =
    name_begins c.args.run.now c.after_hash-hash.result c.after_spaces-from.result c.after_hash-hash.ensures.1 c.after_spaces-from.ensures.0.1
    c.after_spaces-from.ensures.1

pub returns-then-run-to-eq10 : goal.returns-then-run-to-eq10
returns-then-run-to-eq10 c =
    name_stops c.args.run.now c.after_spaces-from.result c.loop-to.to c.loop-to.invariant c.loop-to-test.true c.if-run-to-eq10.true

pub loop-to-preserved : goal.loop-to-preserved
loop-to-preserved c =
    name_goes c.args.run.now c.after_spaces-from.result c.loop-to.to c.loop-to.invariant c.loop-to-test.true c.if-run-to-eq10.false

pub returns : goal.returns
returns c =
    let end : c.loop-to.to ≡ length c.args.run.now = omega arith in
    rw (← end) (name_ends c.args.run.now c.after_spaces-from.result c.loop-to.to c.loop-to.invariant (omega arith))
