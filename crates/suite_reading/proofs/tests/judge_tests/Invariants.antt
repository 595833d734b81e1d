use Prim.Native.Nat.{◌-◌}
use mathlib.Core.Path.{◌≡◌}
use lib.ListN.{drop}
use Rattle.suite.specs.Suite.{number_of, length_fault}
use Rattle.suite_reading.specs.Tests.{tests_in}
use Rattle.suite_reading.proofs.Found.{judgement}
use Rattle.suite_reading.proofs.tests.judge_tests.Given as goal

abbrev pub invariant-loop : goal.invariant-loop
invariant-loop l =
    judgement (number_of l.verdict) (tests_in (l.n - l.counter) (drop l.at l.text)) ≡ judgement (length_fault l.n) (tests_in l.n (drop l.p l.text))
