-- What is said of a test of which it is known what was expected and what came, and how it is counted.
-- Assumes nothing: these are definitions.
use Rattle.std.specs.Prelude.{Bool, true, false, ◌||◌, List, ℕ, ◌+◌, ◌*◌, get_or, set, replicate, eqb}
use Rattle.suite.specs.declared.test.Test.{Test}
use Rattle.suite.specs.Suite.{as_expected}
use Rattle.verdicts.specs.declared.verdict.Verdict.{Verdict}
use Rattle.verdicts.specs.declared.verdict.Verdict.TheVariants.{Good, Refused, Other, NotRun}
use Rattle.verdicts.specs.declared.verdict.Totals.{Totals}

-- whether a number decides anything: 0 is a result, 6, 10 and 11 are clashes, and 1 to 5, 7 and 8 refuse
unfoldable pub decides : ℕ → Bool
decides n = eqb n 0 || (eqb n 6 || (eqb n 10 || eqb n 11))

-- "A test answered 1 to 5, 7 or 8 is **not run** and never as passed, unless that very number was expected, and then it says so."
unfoldable pub verdict_of : Test → ℕ → ℕ → Verdict
verdict_of t n r = elim (as_expected t n r) [
  | true ↦ elim (decides n) [ true ↦ Good | false ↦ Refused ]
  | false ↦ elim (decides n) [ true ↦ Other | false ↦ NotRun ]
]

-- "N as expected, M not, K not run": a refusal that was expected is as expected
unfoldable pub totals_after : Verdict → Totals → Totals
totals_after Good s = record { good = s.good + 1; other = s.other; missed = s.missed }
totals_after Refused s = record { good = s.good + 1; other = s.other; missed = s.missed }
totals_after Other s = record { good = s.good; other = s.other + 1; missed = s.missed }
totals_after NotRun s = record { good = s.good; other = s.other; missed = s.missed + 1 }

abbrev pub no_totals : Totals
no_totals = record { good = 0; other = 0; missed = 0 }

-- "counts by mode and number", 3 by 12, here one mode after the other
abbrev pub numbers : ℕ
numbers = 12

abbrev pub cells : ℕ
cells = 36

unfoldable pub cell_of : ℕ → ℕ → ℕ
cell_of mode number = numbers * mode + number

unfoldable pub no_table : List ℕ
no_table = replicate cells 0

-- one cell is raised
unfoldable pub raised_cell : List ℕ → ℕ → List ℕ
raised_cell table cell = set table cell (get_or table cell 0 + 1)
