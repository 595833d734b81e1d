-- The lines of a report on a suite, for tests of which it is known what was expected and what came.
-- Assumes nothing: these are definitions.
use Rattle.std.specs.Prelude.{List, [], ◌∷◌, ◌++◌, ℕ, ◌+◌, ◌*◌, take, drop}
use Rattle.answer_text.specs.Answer.{newline, readings_label, labelled, after_spaces}
use Rattle.suite.specs.declared.test.Test.{Test}
use Rattle.verdicts.specs.Verdicts.{numbers}
use Rattle.verdicts.specs.declared.verdict.Verdict.{Verdict}
use Rattle.verdicts.specs.declared.verdict.Verdict.TheVariants.{Good, Refused, Other, NotRun}
use Rattle.verdicts.specs.declared.verdict.Totals.{Totals}

-- `test `
abbrev pub test_label : List ℕ
test_label = 116 ∷ 101 ∷ 115 ∷ 116 ∷ 32 ∷ []

-- `: refused with number `
abbrev pub refused_label : List ℕ
refused_label =
    58 ∷ 32 ∷ 114 ∷ 101 ∷ 102 ∷ 117 ∷ 115 ∷ 101 ∷ 100 ∷ 32 ∷ 119 ∷
    105 ∷ 116 ∷ 104 ∷ 32 ∷ 110 ∷ 117 ∷ 109 ∷ 98 ∷ 101 ∷ 114 ∷ 32 ∷ []

-- `, as expected`, and a newline: ``
abbrev pub as_expected_end : List ℕ
as_expected_end = 44 ∷ 32 ∷ 97 ∷ 115 ∷ 32 ∷ 101 ∷ 120 ∷ 112 ∷ 101 ∷ 99 ∷ 116 ∷ 101 ∷ 100 ∷ 10 ∷ []

-- `: expected number `
abbrev pub expected_label : List ℕ
expected_label =
    58 ∷ 32 ∷ 101 ∷ 120 ∷ 112 ∷ 101 ∷ 99 ∷ 116 ∷ 101 ∷
    100 ∷ 32 ∷ 110 ∷ 117 ∷ 109 ∷ 98 ∷ 101 ∷ 114 ∷ 32 ∷ []

-- `, came number `
abbrev pub came_label : List ℕ
came_label = 44 ∷ 32 ∷ 99 ∷ 97 ∷ 109 ∷ 101 ∷ 32 ∷ 110 ∷ 117 ∷ 109 ∷ 98 ∷ 101 ∷ 114 ∷ 32 ∷ []

-- `: not run, number `
abbrev pub not_run_label : List ℕ
not_run_label =
    58 ∷ 32 ∷ 110 ∷ 111 ∷ 116 ∷ 32 ∷ 114 ∷ 117 ∷ 110 ∷
    44 ∷ 32 ∷ 110 ∷ 117 ∷ 109 ∷ 98 ∷ 101 ∷ 114 ∷ 32 ∷ []

-- `; expected number `
abbrev pub but_label : List ℕ
but_label =
    59 ∷ 32 ∷ 101 ∷ 120 ∷ 112 ∷ 101 ∷ 99 ∷ 116 ∷ 101 ∷
    100 ∷ 32 ∷ 110 ∷ 117 ∷ 109 ∷ 98 ∷ 101 ∷ 114 ∷ 32 ∷ []

-- `mode `
abbrev pub mode_label : List ℕ
mode_label = 109 ∷ 111 ∷ 100 ∷ 101 ∷ 32 ∷ []

-- ` as expected, `
abbrev pub good_label : List ℕ
good_label = 32 ∷ 97 ∷ 115 ∷ 32 ∷ 101 ∷ 120 ∷ 112 ∷ 101 ∷ 99 ∷ 116 ∷ 101 ∷ 100 ∷ 44 ∷ 32 ∷ []

-- ` not, `
abbrev pub other_label : List ℕ
other_label = 32 ∷ 110 ∷ 111 ∷ 116 ∷ 44 ∷ 32 ∷ []

-- ` not run`, and a newline: ``
abbrev pub not_run_end : List ℕ
not_run_end = 32 ∷ 110 ∷ 111 ∷ 116 ∷ 32 ∷ 114 ∷ 117 ∷ 110 ∷ 10 ∷ []

-- its name; the test at i without one is called by its number from 1
unfoldable pub shown_name : ℕ → List ℕ → List ℕ
shown_name i [] = labelled test_label (i + 1)
shown_name i (c ∷ cs) = c ∷ cs

-- the line of a test after its name
unfoldable pub verdict_text : Verdict → Test → ℕ → ℕ → List ℕ
verdict_text Good t n r = []
verdict_text Refused t n r = labelled refused_label n ++ as_expected_end
verdict_text Other t n r =
    labelled expected_label t.number ++ (labelled readings_label t.readings ++
    (labelled came_label n ++ (labelled readings_label r ++ newline)))
verdict_text NotRun t n r =
    labelled not_run_label n ++ (labelled but_label t.number ++ (labelled readings_label t.readings ++ newline))

-- the line of the test at i with this name: a good one has none
unfoldable pub line_of : ℕ → List ℕ → Verdict → Test → ℕ → ℕ → List ℕ
line_of i name Good t n r = []
line_of i name Refused t n r = shown_name i name ++ verdict_text Refused t n r
line_of i name Other t n r = shown_name i name ++ verdict_text Other t n r
line_of i name NotRun t n r = shown_name i name ++ verdict_text NotRun t n r

-- a mode, a colon, and each count after a space
unfoldable pub row_text : ℕ → List ℕ → List ℕ
row_text mode row = labelled mode_label mode ++ (58 ∷ (after_spaces row ++ newline))

-- the counts of a mode
unfoldable pub mode_row : ℕ → List ℕ → List ℕ
mode_row mode table = take numbers (drop (numbers * mode) table)

unfoldable pub table_text : List ℕ → List ℕ
table_text table = row_text 0 (mode_row 0 table) ++ (row_text 1 (mode_row 1 table) ++ row_text 2 (mode_row 2 table))

unfoldable pub totals_text : Totals → List ℕ
totals_text s = labelled [] s.good ++ (labelled good_label s.other ++ (labelled other_label s.missed ++ not_run_end))

-- what stands after the lines of the tests
unfoldable pub summary : List ℕ → Totals → List ℕ
summary table s = table_text table ++ totals_text s
