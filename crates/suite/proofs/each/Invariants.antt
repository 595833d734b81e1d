use Rattle.std.proofs.Common.{◌≡◌}
use Rattle.suite.specs.Suite.{begun_night, night_after}
use Rattle.suite.proofs.each.Given as goal

abbrev pub invariant-loop-test : goal.invariant-loop-test
invariant-loop-test l = record { counts = l.counts; running = l.running; result = l.res; working = l.working }
    ≡ night_after l.words l.tests (begun_night l.fn.res l.fn.working) l.test-index
