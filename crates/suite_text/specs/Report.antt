-- What is printed for the text of a suite. "Prints each test that was not as expected with its name, the table by mode and
-- number, and a last line `N as expected, M not, K not run`."
-- Assumes nothing: these are definitions.
use Rattle.std.specs.Prelude.{◌≡◌, true, false, List, [], ◌∷◌, ◌++◌, ℕ, zero, suc, ◌-◌, length, take, drop, ltb}
use Rattle.std.proofs.Math.Option.{Option, none, some}
use Rattle.theory.specs.Limits.{working_size}
use Rattle.theory.specs.Answer.{Answer}
use Rattle.theory.specs.Unified.{unified}
use Rattle.reply.specs.Printed.{result_size}
use Rattle.answer_text.specs.Answer.{newline, answer_label, labelled, bad_text, Wrote}
use Rattle.suite.specs.Suite.{table_fault}
use Rattle.verdicts.specs.declared.verdict.Verdict.{Verdict}
use Rattle.verdicts.specs.declared.verdict.Totals.{Totals}
use Rattle.verdicts.specs.Verdicts.{verdict_of, totals_after, no_totals, cell_of, no_table, raised_cell}
use Rattle.suite_lines.specs.Lines.{line_of, summary}
use Rattle.suite_reading.specs.Text.{blanked, spaces_off, name_in}
use Rattle.suite_reading.specs.Tests.{TypedTest, expected_in, all_expected, typed_suite}
use Rattle.suite_reading.specs.declared.tests.Place.{Place}
use Rattle.suite_reading.specs.Finding.{WordsStand}

-- ---- a test
-- "Its result area has 2,048 words, its working area 16,384": the answer that came
unfoldable pub call_answer : ℕ → List ℕ → List ℕ → Answer
call_answer mode first second = unified (record { mode = mode; first = first; second = second }) result_size working_size

abbrev pub came_of : TypedTest → Answer
came_of t = call_answer t.mode t.first t.second

-- its bytes from after its mode up to the next number or the end of the line of its last one
unfoldable pub test_run : List ℕ → TypedTest → List ℕ
test_run text t = take (length t.after_mode - length (spaces_off t.after)) (drop (length text - length t.after_mode) text)

unfoldable pub test_verdict : TypedTest → Verdict
test_verdict t = verdict_of (expected_in t) (came_of t).number (came_of t).readings

unfoldable pub test_line : List ℕ → ℕ → TypedTest → List ℕ
test_line text i t =
    line_of i (name_in (test_run text t)) (test_verdict t) (expected_in t) (came_of t).number (came_of t).readings

-- ---- the whole
-- the lines of tests whose first has the place i
unfoldable pub test_lines : List ℕ → ℕ → List TypedTest → List ℕ
test_lines text i [] = []
test_lines text i (t ∷ ts) = test_line text i t ++ test_lines text (suc i) ts

unfoldable pub totals_of : Totals → List TypedTest → Totals
totals_of s [] = s
totals_of s (t ∷ ts) = totals_of (totals_after (test_verdict t) s) ts

-- "the table by mode and number"
unfoldable pub table_of : List ℕ → List TypedTest → List ℕ
table_of table [] = table
table_of table (t ∷ ts) = table_of (raised_cell table (cell_of t.mode (came_of t).number)) ts

-- a suite that is refused has its number alone. No word area is lent, so 31 does not come
abbrev pub tests_report : ℕ → List ℕ → List TypedTest → List ℕ
tests_report zero text ts = test_lines text 0 ts ++ summary (table_of no_table ts) (totals_of no_totals ts)
tests_report (suc n) text ts = labelled answer_label (suc n) ++ newline

unfoldable pub reported : List ℕ → List TypedTest → List ℕ
reported text ts = tests_report (table_fault 0 (all_expected ts) (length ts)) text ts

-- a text of over 1,048,576 bytes is bad input
abbrev pub suite_text_limit : ℕ
suite_text_limit = 1048576

-- what is printed for a text that is not too long
unfoldable pub typed_printed : List ℕ → List ℕ
typed_printed text = elim (typed_suite (blanked false text)) [ none ↦ bad_text | some ts ↦ reported text ts ]

unfoldable pub suite_printed : List ℕ → List ℕ
suite_printed text = elim (ltb suite_text_limit (length text)) [ true ↦ bad_text | false ↦ typed_printed text ]

-- ---- on the way
-- number and readings are those of the call on the words that stand at these places
abbrev pub TestAnswers : (text : List ℕ) (p : Place) (number readings : ℕ) → Type 0
TestAnswers text p number readings =
    (first second : List ℕ) → WordsStand text p.first p.firsts first → WordsStand text p.second p.seconds second →
    (number ≡ (call_answer p.mode first second).number) × (readings ≡ (call_answer p.mode first second).readings)

-- these are so many tests that may be run
abbrev pub MayRun : ℕ → Option (List TypedTest) → Type 0
MayRun n none = ⊥
MayRun n (some ts) = (length ts ≡ n) × (table_fault 0 (all_expected ts) (length ts) ≡ 0)

-- the report on tests stands at the start of out, or has no room there
abbrev pub ReportWrote : List ℕ → Option (List TypedTest) → List ℕ → List ℕ → Rattle.std.specs.Prelude.Option ℕ → Type 0
ReportWrote text none out out' r = ⊥
ReportWrote text (some ts) out out' r = Wrote (tests_report 0 text ts) out out' r
