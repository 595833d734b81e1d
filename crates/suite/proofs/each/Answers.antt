-- `suite::each` meets its contract. The loop's invariant: counts, record and areas are those after so many tests. Assumes nothing.
use Rattle.std.proofs.Common.{refl, sym, add-one}
use Rattle.suite.specs.Suite.{begun_night}
use Rattle.suite.proofs.Runs.{starts}
use Rattle.suite.proofs.Turns.{turn_asks, turn_next}
use Rattle.suite.proofs.each.Goals as goal

pub loop-test-init : goal.loop-test-init
loop-test-init c =
    rw (c.none-counts.ensures, c.begun.ensures)
    (sym (starts c.args.words.now c.args.tests.now (begun_night c.args.res.now c.args.working.now)))

pub noted-requires : goal.noted-requires
noted-requires c =
    (turn_asks c.args.words.now c.args.tests.now c.args.res.now c.args.working.now c.loop-test.test-index _ c.loop-test.invariant
    _ refl _ _ _ _ _ c.requires c.loop-test-test.true c.one-seen.ensures).0

pub raised-next-requires : goal.raised-next-requires
raised-next-requires c =
    (turn_asks c.args.words.now c.args.tests.now c.args.res.now c.args.working.now c.loop-test.test-index _ c.loop-test.invariant
    _ refl _ _ _ _ _ c.requires c.loop-test-test.true c.one-seen.ensures).1

pub loop-test-preserved : goal.loop-test-preserved
loop-test-preserved c =
    rw (add-one, c.raised-next.ensures, c.noted.ensures)
    (turn_next c.args.words.now c.args.tests.now c.args.res.now c.args.working.now c.loop-test.test-index _ c.loop-test.invariant
    _ refl _ _ _ _ c.one-seen.ensures)
