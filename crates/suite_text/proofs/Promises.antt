-- What the table and the last line of a report say, test by test. Assumes nothing.
use mathlib.Core.Path.{◌≡◌, refl, ap, ◌∙◌}
use mathlib.Core.Bool.{Bool, true, false, ◌&&◌}
use mathlib.Core.List.{List, [], ◌∷◌}
use Prim.Native.Nat.{ℕ, ◌+◌, ◌*◌, ◌<◌}
use native.Mathlib.Omega.{arith}
use lib.Dec.{eqb}
use lib.ListN.{length, get_or, set}
use lib.Seq.{get_or-set_same, get_or-set_other}
use borrow.Author.Tests.{eqb-true, eqb-false}
use Rattle.suite.specs.Suite.{as_expected}
use Rattle.verdicts.specs.declared.verdict.Verdict.{Verdict}
use Rattle.verdicts.specs.declared.verdict.Verdict.TheVariants.{Good, Refused, Other, NotRun}
use Rattle.verdicts.specs.declared.verdict.Totals.{Totals}
use Rattle.verdicts.specs.Verdicts.{decides, verdict_of, totals_after, no_totals, numbers, cells, cell_of, no_table, raised_cell}
use Rattle.verdicts.proofs.Laws.{no_cell, raised_size}
use Rattle.suite_reading.specs.Tests.{TypedTest, expected_in}
use Rattle.suite_text.specs.Report.{came_of, test_verdict, totals_of, table_of}
use Rattle.suite_text.proofs.Answers.{number_low}
use Rattle.suite_text.proofs.Reporting.{Modes, one_more}

-- 1 where a test holds
abbrev one_if : Bool → ℕ
one_if true = 1
one_if false = 0

-- how many tests pass a test that computes
abbrev pub tests_with : (TypedTest → Bool) → List TypedTest → ℕ
tests_with p [] = 0
tests_with p (t ∷ ts) = one_if (p t) + tests_with p ts

-- ---- the table
-- the test is of this mode, and was answered with this number
abbrev pub gives : ℕ → ℕ → TypedTest → Bool
gives m k t = eqb t.mode m && eqb (came_of t).number k

module _ (m k : ℕ) (mode_low : m < 3) (low : k < numbers) where
  -- raising the cell of another mode or number leaves this one
  raised_one : (table : List ℕ) → length table ≡ cells → (t : TypedTest) → t.mode < 3 →
      get_or (raised_cell table (cell_of t.mode (came_of t).number)) (cell_of m k) 0
      ≡ get_or table (cell_of m k) 0 + one_if (gives m k t)
  unfolding raised_cell cell_of
  raised_one table size t mode_fine = go (eqb t.mode m) refl (eqb n k) refl
    where
      n : ℕ
      n = (came_of t).number

      v : ℕ
      v = get_or table (numbers * t.mode + n) 0 + 1

      go : (a : Bool) → eqb t.mode m ≡ a → (b : Bool) → eqb n k ≡ b →
          get_or (set table (numbers * t.mode + n) v) (numbers * m + k) 0 ≡ get_or table (numbers * m + k) 0 + one_if (a && b)
      go true ea true eb =
          let f = eqb-true t.mode m ea in
          let g = eqb-true n k eb in
          let here : numbers * t.mode + n ≡ numbers * m + k = omega arith in
          ap (λ (c : ℕ). get_or (set table c (get_or table c 0 + 1)) (numbers * m + k) 0) here
          ∙ get_or-set_same table (numbers * m + k) (get_or table (numbers * m + k) 0 + 1) 0 (omega arith)
      go true ea false eb =
          let l = number_low t in
          let f = eqb-true t.mode m ea in
          let kept = get_or-set_other table (numbers * t.mode + n) (numbers * m + k) v 0 (λ e. eqb-false n k eb (omega arith)) in
          omega arith
      go false ea b eb =
          let l = number_low t in
          let kept = get_or-set_other table (numbers * t.mode + n) (numbers * m + k) v 0 (λ e. eqb-false t.mode m ea (omega arith)) in
          omega arith

  counted_from : (table : List ℕ) → length table ≡ cells → (ts : List TypedTest) → Modes ts →
      get_or (table_of table ts) (cell_of m k) 0 ≡ get_or table (cell_of m k) 0 + tests_with (gives m k) ts
  unfolding table_of
  counted_from table size [] h = omega arith
  counted_from table size (t ∷ ts) (one_more fine h) =
      let c : ℕ = cell_of t.mode (came_of t).number in
      let rest = counted_from (raised_cell table c) (raised_size table c ∙ size) ts h in
      let one = raised_one table size t fine in
      omega arith

  -- a cell of the table is how many tests of its mode were answered with its number
  pub table_says : (ts : List TypedTest) → Modes ts → get_or (table_of no_table ts) (cell_of m k) 0 ≡ tests_with (gives m k) ts
  unfolding no_table
  table_says ts h =
      let e = counted_from no_table refl ts h in
      let z = no_cell (cell_of m k) in
      omega arith

-- ---- the last line
abbrev is_good : Verdict → Bool
is_good Good = true
is_good Refused = true
is_good Other = false
is_good NotRun = false

abbrev is_other : Verdict → Bool
is_other Good = false
is_other Refused = false
is_other Other = true
is_other NotRun = false

abbrev is_missed : Verdict → Bool
is_missed Good = false
is_missed Refused = false
is_missed Other = false
is_missed NotRun = true

-- both numbers of the test agree
abbrev pub agrees : TypedTest → Bool
agrees t = as_expected (expected_in t) (came_of t).number (came_of t).readings

-- a test is counted as good exactly where both its numbers agree
good_iff : (t : TypedTest) → is_good (test_verdict t) ≡ agrees t
unfolding test_verdict verdict_of
good_iff t = go (agrees t) (decides (came_of t).number)
  where
    go : (a d : Bool) → is_good (elim a [
      | true ↦ elim d [ true ↦ Good | false ↦ Refused ]
      | false ↦ elim d [ true ↦ Other | false ↦ NotRun ]
    ]) ≡ a
    go true true = refl
    go true false = refl
    go false true = refl
    go false false = refl

step : (w : Verdict) (s : Totals) → ((totals_after w s).good ≡ s.good + one_if (is_good w)) ×
    (((totals_after w s).other ≡ s.other + one_if (is_other w)) × ((totals_after w s).missed ≡ s.missed + one_if (is_missed w)))
unfolding totals_after
step Good s = (refl, (omega arith, omega arith))
step Refused s = (refl, (omega arith, omega arith))
step Other s = (omega arith, (refl, omega arith))
step NotRun s = (omega arith, (omega arith, refl))

one_of : (w : Verdict) → one_if (is_good w) + (one_if (is_other w) + one_if (is_missed w)) ≡ 1
one_of Good = refl
one_of Refused = refl
one_of Other = refl
one_of NotRun = refl

good_from : (s : Totals) (ts : List TypedTest) → (totals_of s ts).good ≡ s.good + tests_with agrees ts
unfolding totals_of
good_from s [] = omega arith
good_from s (t ∷ ts) =
    let rest = good_from (totals_after (test_verdict t) s) ts in
    let here = (step (test_verdict t) s).0 in
    let same : one_if (is_good (test_verdict t)) ≡ one_if (agrees t) = ap one_if (good_iff t) in
    omega arith

all_from : (s : Totals) (ts : List TypedTest) →
    (totals_of s ts).good + ((totals_of s ts).other + (totals_of s ts).missed) ≡ s.good + (s.other + s.missed) + length ts
unfolding totals_of
all_from s [] = omega arith
all_from s (t ∷ ts) =
    let rest = all_from (totals_after (test_verdict t) s) ts in
    let here = step (test_verdict t) s in
    let g = here.0 in
    let o = here.1.0 in
    let m = here.1.1 in
    let one = one_of (test_verdict t) in
    omega arith

-- "N as expected": those whose number and readings both agree
pub good_says : (ts : List TypedTest) → (totals_of no_totals ts).good ≡ tests_with agrees ts
good_says ts = let e = good_from no_totals ts in omega arith

-- the three numbers of the last line add up to the tests
pub totals_add_up : (ts : List TypedTest) →
    (totals_of no_totals ts).good + ((totals_of no_totals ts).other + (totals_of no_totals ts).missed) ≡ length ts
totals_add_up ts = let e = all_from no_totals ts in omega arith
