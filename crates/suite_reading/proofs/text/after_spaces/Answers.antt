-- `suite_reading::text::after_spaces` meets its contract: what is left of the run goes on as the whole does.
-- Assumes nothing.
use native.Mathlib.Omega.{arith}
use mathlib.Core.Path.{◌≡◌, ◌∙◌}
use lib.ListN.{length}
use Rattle.suite_reading.proofs.Texts.{spaces_end, spaces_here, spaces_later}
use Rattle.suite_reading.proofs.text.after_spaces.Goals as goal

pub returns-then-run-at-ne32 : goal.returns-then-run-at-ne32
returns-then-run-at-ne32 c =
    ((omega arith, omega arith), spaces_here c.args.run.now c.loop-at.at c.loop-at-test.true c.if-run-at-ne32.true ∙ c.loop-at.invariant)

pub loop-at-preserved : goal.loop-at-preserved
loop-at-preserved c = spaces_later c.args.run.now c.loop-at.at c.loop-at-test.true c.if-run-at-ne32.false ∙ c.loop-at.invariant

pub returns : goal.returns
returns c =
    let end : c.loop-at.at ≡ length c.args.run.now = omega arith in
    ((omega arith, omega arith), rw (← end) (spaces_end c.args.run.now c.loop-at.at (omega arith) ∙ c.loop-at.invariant))
