-- One test of a text: what was found of it, what came of it, and the line that it has. Assumes nothing.
use mathlib.Core.Path.{◌≡◌, refl, sym, ap, subst, ◌∙◌}
use mathlib.Core.Option.{none}
use mathlib.Core.List.{List}
use Prim.Native.Nat.{ℕ, ◌-◌, ◌≤◌, ◌<◌, min}
use native.Mathlib.Omega.{arith}
use lib.ListN.{length, take, drop}
use Rattle.suite.specs.declared.test.Test.{Test}
use Rattle.suite_reading.specs.Text.{spaces_off, name_in}
use Rattle.suite_reading.specs.Tests.{TypedTest, leading_test, expected_test, expected_in}
use Rattle.suite_reading.specs.Finding.{TestPlaces, Found, FindsTest}
use Rattle.suite_reading.specs.declared.tests.Place.{Place}
use Rattle.std.specs.Prelude.{Some, None}
use Rattle.verdicts.specs.declared.verdict.Verdict.{Verdict}
use Rattle.verdicts.specs.declared.verdict.Totals.{Totals}
use Rattle.verdicts.specs.Verdicts.{verdict_of, totals_after, numbers as all-numbers, cell_of, raised_cell}
use Rattle.suite_lines.specs.Lines.{line_of}
use Rattle.suite_text.specs.Report.{call_answer, came_of, test_run, test_verdict, test_line, TestAnswers}
use Rattle.suite_reading.proofs.Found.{found_places, found_none_there}
use Rattle.suite_text.proofs.Answers.{number_low}
use Rattle.suite_text.proofs.Rests.{after_shorter, held_place, run_order, run_is}
use Rattle.suite_text.proofs.Reporting.{Reporting, Going, reporting_next}

-- a place, or the end where that comes first
pub lowest : (p n r : ℕ) → r ≡ min p n → (r ≤ n) × ((p ≤ n → r ≡ p) × (n < p → r ≡ n))
lowest p n r e = (omega arith, (λ h. omega arith, λ h. omega arith))

-- the test that is left first, and where its parts were found
pub record Step {text numbers : List ℕ} {n : ℕ} {whole out₀ out table : List ℕ} {totals : Totals} {at end i : ℕ}
    (g : Reporting text numbers n whole out₀ out table totals at end i) (p : Place) : Type 0 where
  pub going : Going text numbers n whole out₀ out table totals at end i g
  pub places : TestPlaces numbers going.next.test p

module _ {text numbers : List ℕ} {n : ℕ} {whole out₀ out table : List ℕ} {totals : Totals} {at end i : ℕ}
    (g : Reporting text numbers n whole out₀ out table totals at end i) (more : i < n) (f : Found)
    (finds : FindsTest numbers (leading_test (drop at numbers)) f) where
  abbrev there : Going text numbers n whole out₀ out table totals at end i g
  there = reporting_next text numbers n whole out₀ out table totals at end i g more

  -- a test is left, so one was found
  pub none_wrong : f ≡ None → ⊥
  none_wrong e =
      let gone : none ≡ leading_test (drop at numbers) = found_none_there numbers (leading_test (drop at numbers)) f finds e in
      let here = there.next.leads in
      let z : ◌≡◌ {A = ℕ} 0 1 = cc in
      omega arith

  pub stepping : {p : Place} → f ≡ Some p → Step g p
  stepping {p} e = record {
    going = there;
    places = found_places numbers (leading_test (drop at numbers)) f finds p e there.next.test there.next.leads;
  }

module _ {text numbers : List ℕ} {n : ℕ} {whole out₀ out table : List ℕ} {totals : Totals} {at end i : ℕ}
    {g : Reporting text numbers n whole out₀ out table totals at end i} {p : Place}
    (s : Step g p) where
  abbrev pub tested : TypedTest
  tested = s.going.next.test

  -- ---- what comes of it
  module _ {number readings : ℕ} (h : TestAnswers numbers p number readings) where
    pub came : (number ≡ (came_of tested).number) × (readings ≡ (came_of tested).readings)
    came =
        let y = h tested.first tested.second s.places.the_first s.places.the_second in
        subst (λ (x : ℕ). (number ≡ (call_answer x tested.first tested.second).number)
        × (readings ≡ (call_answer x tested.first tested.second).readings)) s.places.mode y

    pub came_small : number < all-numbers
    came_small = let e = came.0 in let l = number_low tested in omega arith

  -- ---- where its name stands
  module _ (same : length numbers ≡ length text) {from : ℕ} (low : from ≤ length numbers)
      (here : (p.named ≤ length numbers → from ≡ p.named) × (length numbers < p.named → from ≡ length numbers)) {held : ℕ}
      (held_Low : held ≤ length numbers)
      (held-here : (p.next ≤ length numbers → held ≡ p.next) × (length numbers < p.next → held ≡ length numbers)) {to : ℕ}
      (spaces : ((held ≤ to) × (to ≤ length numbers)) × (drop to numbers ≡ spaces_off (drop held numbers))) where
    begins : drop from numbers ≡ tested.after_mode
    begins = held_place numbers p.named from low here.0 here.1 ∙ sym s.places.after_mode

    goes_on : drop held numbers ≡ tested.after
    goes_on = held_place numbers p.next held held_Low held-here.0 held-here.1 ∙ sym s.places.after

    shorter : length tested.after ≤ length tested.after_mode
    shorter = after_shorter (drop at numbers) tested s.going.next.leads

    pub name_order : from ≤ to
    name_order = run_order text numbers same tested from held to shorter low begins goes_on spaces.0.1 spaces.1

    pub name_run : take (to - from) (drop from text) ≡ test_run text tested
    name_run = run_is text numbers same tested from held to shorter low begins goes_on spaces.0.1 spaces.1

    -- ---- its line
    module _ {test : Test} (expects : test ≡ expected_test p.mode p.number p.readings) {number readings : ℕ} (h : TestAnswers numbers p number readings)
        {what : Verdict} (says : what ≡ verdict_of test number readings) where
      test_is : test ≡ expected_in tested
      test_is = expects ∙ (λ j. expected_test (s.places.mode j) (s.places.number j) (s.places.readings j))

      pub verdict_is : what ≡ test_verdict tested
      unfolding test_verdict
      verdict_is = rw (test_is, (came h).0, (came h).1) at says

      pub line_is : line_of i (name_in (take (to - from) (drop from text))) what test number readings ≡ test_line text i tested
      unfolding test_line
      line_is = rw (name_run, verdict_is, test_is, (came h).0, (came h).1) refl

  -- ---- what is counted
  pub raised : {number readings : ℕ} → TestAnswers numbers p number readings → {table' : List ℕ} →
      table' ≡ raised_cell table (cell_of p.mode number) → raised_cell table (cell_of tested.mode (came_of tested).number) ≡ table'
  raised {number} h e =
      ap (λ (x : ℕ). raised_cell table (cell_of x (came_of tested).number)) (sym s.places.mode)
      ∙ ap (λ (x : ℕ). raised_cell table (cell_of p.mode x)) (sym (came h).0) ∙ sym e

  pub summed : {what : Verdict} → what ≡ test_verdict tested → {totals' : Totals} → totals' ≡ totals_after what totals →
      totals_after (test_verdict tested) totals ≡ totals'
  summed w e = rw w at (sym e)
