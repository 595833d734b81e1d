-- `suite_reading::text::after_hash` meets its contract: what is left of the run goes on as the whole does.
-- Assumes nothing.
use native.Mathlib.Omega.{arith}
use mathlib.Core.Path.{◌≡◌, ◌∙◌}
use lib.ListN.{length}
use Rattle.suite_reading.proofs.Texts.{hash_end, hash_here, hash_later}
use Rattle.suite_reading.proofs.text.after_hash.Goals as goal

pub returns-then-byte-eq35 : goal.returns-then-byte-eq35
returns-then-byte-eq35 c =
    (omega arith, hash_here c.args.run.now c.loop-at.at c.loop-at-test.true c.if-byte-eq35.true ∙ c.loop-at.invariant)

pub loop-at-preserved : goal.loop-at-preserved
loop-at-preserved c = hash_later c.args.run.now c.loop-at.at c.loop-at-test.true c.if-byte-eq35.false ∙ c.loop-at.invariant

pub returns : goal.returns
returns c =
    let end : c.loop-at.at ≡ length c.args.run.now = omega arith in
    (omega arith, rw (← end) (hash_end c.args.run.now c.loop-at.at (omega arith) ∙ c.loop-at.invariant))
