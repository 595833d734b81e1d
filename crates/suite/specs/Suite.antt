-- A night's suite over the table of numbers: which table is refused, what one test does to counts, record and areas, and what the whole
-- table leaves.
-- Assumes nothing: these are definitions.
use Rattle.std.specs.Prelude.{◌≡◌, Bool, true, false, ◌&&◌, List, [], ◌∷◌, ◌++◌, ℕ, zero, suc, ◌+◌, ◌≤◌, ◌<◌, length, get_or, set, take}
use Rattle.std.specs.Prelude.{drop, replicate, ltb, eqb}
use Rattle.theory.specs.Answer.{Answer, Call}
use Rattle.theory.specs.Unified.{unified}
use Rattle.theory.specs.Outcome.{Areas}
use Rattle.descriptions.specs.Outcome.{worked}
use Rattle.std.specs.Prelude.{Result}
use Rattle.std.specs.declared.result.Result.TheVariants.{Ok, Err}
use Rattle.suite.specs.declared.checks.Refusal.{Refusal}
use Rattle.suite.specs.declared.checks.Refusal.TheVariants.{TooMany, BeyondArea, OutOfTable}
use Rattle.suite.specs.declared.test.Test.{Test}
use Rattle.suite.specs.declared.running.Running.{Running}

-- what stands past the end of a table
abbrev pub no_test : Test
no_test = record { mode = 0; number = 0; readings = 0; first = 0; firsts = 0; second = 0; seconds = 0 }

-- ---- refusals
-- "31 a record names words beyond the area, 32 a record with a mode above 2 or an expected number above" the greatest, "… then 31", and
-- "its greatest expected number" widens "to 11"; 0 for a record that is fine
unfoldable pub record_fault : ℕ → Test → ℕ
record_fault space t =
    elim (ltb space (t.first + t.firsts)) [
      | true ↦ 31
      | false ↦
          elim (ltb space (t.second + t.seconds)) [
            | true ↦ 31
            | false ↦ elim (ltb 2 t.mode) [ true ↦ 32 | false ↦ elim (ltb 11 t.number) [ true ↦ 32 | false ↦ 0 ] ]
          ]
    ]

-- "the lower record comes first": a refusal that is found stays
unfoldable pub fault_after : ℕ → ℕ → Test → ℕ
fault_after zero space t = record_fault space t
fault_after (suc n) space t = suc n

-- "30 over 64 records"
unfoldable pub length_fault : ℕ → ℕ
length_fault n = elim (ltb 64 n) [ true ↦ 30 | false ↦ 0 ]

-- the refusal once so many records are looked at; 0 for none
unfoldable pub table_fault : ℕ → List Test → ℕ → ℕ
table_fault space tests zero = length_fault (length tests)
table_fault space tests (suc i) = fault_after (table_fault space tests i) space (get_or tests i no_test)

-- the number of a suite: 0 where it is not refused
abbrev pub refusal_number : Refusal → ℕ
refusal_number TooMany = 30
refusal_number BeyondArea = 31
refusal_number OutOfTable = 32

abbrev pub number_of : Result (Unit {0}) Refusal → ℕ
number_of (Ok x) = 0
number_of (Err e) = refusal_number e

-- both descriptions of a record stand within the area
abbrev pub Within : ℕ → Test → Type 0
Within space t = (t.first + t.firsts ≤ space) × (t.second + t.seconds ≤ space)

-- the first n records of a table may be run
pub record Runnable (n space : ℕ) (tests : List Test) : Type 0 where
  pub there : n ≤ length tests
  pub few : n ≤ 64
  pub fits : (i : ℕ) → i < n → Within space (get_or tests i no_test)
  pub modes : (i : ℕ) → i < n → (get_or tests i no_test).mode < 3

-- ---- one test
-- the words that a record names
unfoldable pub test_words : List ℕ → ℕ → ℕ → List ℕ
test_words ws at n = take n (drop at ws)

-- the call that a record stands for
abbrev pub test_call : List ℕ → Test → Call
test_call ws t = record {
  mode = t.mode;
  first = test_words ws t.first t.firsts;
  second = test_words ws t.second t.seconds;
}

-- what the table of numbers answers to it, over areas of this room
unfoldable pub test_answer : List ℕ → Test → ℕ → ℕ → Answer
test_answer ws t room work = unified (test_call ws t) room work

-- what a call that answers this leaves of the result area: "only number 0 writes, the first so many words; the rest stays"
unfoldable pub result_after : Answer → List ℕ → List ℕ
result_after y s = y.result ++ drop (length y.result) s

-- number, readings and both areas are as this answer says
abbrev pub AsGiven : Answer → Areas → ℕ → ℕ → Areas → Type 0
AsGiven y before n r after =
    (n ≡ y.number) × ((r ≡ y.readings) ×
    ((after.result ≡ result_after y before.result) × (after.working ≡ worked y.number before.working)))

-- "its call was made": number, readings and both areas are as the table of numbers says of this test
abbrev pub AsAnswered : List ℕ → Test → Areas → ℕ → ℕ → Areas → Type 0
AsAnswered ws t before n r after = AsGiven (test_answer ws t (length before.result) (length before.working)) before n r after

-- "both numbers agree"
unfoldable pub as_expected : Test → ℕ → ℕ → Bool
as_expected t n r = eqb t.number n && eqb t.readings r

-- "Each suite starts it at zeros and 64"
abbrev pub begun_record : Running
begun_record = record { run = 0; good = 0; first = 64 }

-- the first unexpected one: the one that stands, or this one if none does
unfoldable pub first_after : ℕ → ℕ → ℕ
first_after at first = elim (eqb first 64) [ true ↦ at | false ↦ first ]

unfoldable pub noted_as : Bool → Running → Running
noted_as true h = record { run = h.run + 1; good = h.good + 1; first = h.first }
noted_as false h = record { run = h.run + 1; good = h.good; first = first_after h.run h.first }

-- "A small running record is updated after each test"
unfoldable pub noted_record : Test → ℕ → ℕ → Running → Running
noted_record t n r h = noted_as (as_expected t n r) h

unfoldable pub row_sum : List ℕ → ℕ
row_sum [] = 0
row_sum (x ∷ l) = x + row_sum l

-- "its sum is the tests run"
unfoldable pub counts_sum : List (List ℕ) → ℕ
counts_sum [] = 0
counts_sum (row ∷ l) = row_sum row + counts_sum l

-- "counts by mode and number"; "Five's table widens to 3 by 12"
unfoldable pub no_counts : List (List ℕ)
no_counts = replicate 3 (replicate 12 0)

-- "one cell raised per test"
unfoldable pub raised_at : List (List ℕ) → ℕ → ℕ → List (List ℕ)
raised_at counts mode number = set counts mode (set (get_or counts mode []) number (get_or (get_or counts mode []) number 0 + 1))

-- ---- the whole table
-- counts, record and both areas
pub record Night : Type 0 where
  pub counts : List (List ℕ)
  pub running : Running
  pub result : List ℕ
  pub working : List ℕ

abbrev pub begun_night : List ℕ → List ℕ → Night
begun_night s w = record { counts = no_counts; running = begun_record; result = s; working = w }

-- what one test leaves, if the call answers this
unfoldable pub test_left : Test → Answer → Night → Night
test_left t y s = record {
  counts = raised_at s.counts t.mode y.number;
  running = noted_record t y.number y.readings s.running;
  result = result_after y s.result;
  working = worked y.number s.working;
}

-- the answer to a test that is run when the night stands so
abbrev pub answer_then : List ℕ → Test → Night → Answer
answer_then ws t s = test_answer ws t (length s.result) (length s.working)

unfoldable pub night_step : List ℕ → Test → Night → Night
night_step ws t s = test_left t (answer_then ws t s) s

-- the first so many tests, in order
unfoldable pub night_after : List ℕ → List Test → Night → ℕ → Night
night_after ws tests s zero = s
night_after ws tests s (suc i) = night_step ws (get_or tests i no_test) (night_after ws tests s i)

-- what a refused suite leaves, and what one leaves that is not refused
unfoldable pub night_left : ℕ → List ℕ → List Test → Night → Night
night_left zero ws tests s = night_after ws tests (begun_night s.result s.working) (length tests)
night_left (suc n) ws tests s = s

-- number and state after a suite
pub record Suited (ws : List ℕ) (tests : List Test) (before : Night) (number : ℕ) (left : Night) : Type 0 where
  pub the_number : number ≡ table_fault (length ws) tests (length tests)
  pub the_rest : left ≡ night_left (table_fault (length ws) tests (length tests)) ws tests before
