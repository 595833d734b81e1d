use lib.ListN.{drop}
use Rattle.suite_reading.specs.Tests.{tests_in}
use Rattle.suite_text.proofs.Reporting.{Reporting, whole_of}
use Rattle.suite_text.proofs.run_tests.Given as goal

abbrev pub invariant-loop-i : goal.invariant-loop-i
invariant-loop-i l =
    Reporting l.text l.numbers l.n (whole_of l.text (tests_in l.n (drop l.p l.numbers))) l.initial.out l.out l.table l.totals l.at l.end l.i
