use Rattle.std.proofs.Common.{◌≡◌}
use Rattle.suite.specs.Suite.{table_fault}
use Rattle.suite.proofs.checks.checked.Given as goal

abbrev pub invariant-loop-test : goal.invariant-loop-test
invariant-loop-test l = table_fault l.space l.tests l.test-index ≡ 0
