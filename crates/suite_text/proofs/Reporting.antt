-- Running the tests of a text one after another: what is left of the report, and of the tests. Assumes nothing.
use mathlib.Core.Path.{◌≡◌, refl, sym, ap, subst, ◌∙◌}
use mathlib.Core.Option.{Option, none, some, some-injective}
use mathlib.Core.List.{List, [], ◌∷◌, ◌++◌, append_assoc}
use Prim.Native.Nat.{ℕ, zero, suc, ◌+◌, ◌≤◌, ◌<◌}
use native.Mathlib.Omega.{arith}
use native.Mathlib.Numerals.{add-one}
use lib.ListN.{length, drop, get_or, set}
use Rattle.answer_text.specs.Answer.{Wrote}
use Rattle.answer_text.specs.Going.{Going as Going·text, Appends}
use Rattle.std.specs.Prelude.{Some, None}
use Rattle.answer_text.proofs.Goings.{Turned, turns_begin, turns_go, turns_stop, wrote}
use Rattle.suite.specs.Suite.{no_test, table_fault, Runnable}
use Rattle.suite.proofs.Runs.{found_fine}
use Rattle.suite_reading.specs.Tests.{TypedTest, leading_test, followed, tests_in, all_expected}
use Rattle.suite_reading.proofs.Found.{expected_many}
use Rattle.verdicts.specs.declared.verdict.Verdict.{Verdict}
use Rattle.verdicts.specs.declared.verdict.Verdict.TheVariants.{Good, Refused, Other, NotRun}
use Rattle.verdicts.specs.declared.verdict.Totals.{Totals}
use Rattle.verdicts.specs.Verdicts.{totals_after, no_totals, cells, cell_of, no_table, raised_cell}
use Rattle.verdicts.proofs.Laws.{no_cell, raised_size}
use Rattle.suite_lines.specs.Lines.{summary}
use Rattle.suite_text.specs.Report.{came_of, test_verdict, test_line, test_lines, totals_of, table_of, tests_report, MayRun}
use Rattle.suite_text.specs.Report.{ReportWrote}

-- ---- the tests that are left
-- one more test stands there, and the others after it
pub record Next (cs : List ℕ) (m : ℕ) (ts : List TypedTest) : Type 0 where
  pub test : TypedTest
  pub others : List TypedTest
  pub leads : leading_test cs ≡ some test
  pub follow : tests_in m test.after ≡ some others
  pub are : ts ≡ test ∷ others

pub next_test : (m : ℕ) (cs : List ℕ) (ts : List TypedTest) → tests_in (suc m) cs ≡ some ts → Next cs m ts
unfolding tests_in
next_test m cs ts e = go (leading_test cs) refl e
  where
    on : (t : TypedTest) → leading_test cs ≡ some t → (o : Option (List TypedTest)) → tests_in m t.after ≡ o →
        followed t o ≡ some ts → Next cs m ts
    on t l none f g = let z : ◌≡◌ {A = ℕ} 0 1 = cc in absurd (omega arith)
    on t l (some us) f g = record { test = t; others = us; leads = l; follow = f; are = sym (some-injective (t ∷ us) ts g) }

    go : (o : Option TypedTest) → leading_test cs ≡ o →
        elim o [ none ↦ none | some t ↦ followed t (tests_in m t.after) ] ≡ some ts → Next cs m ts
    go none l g = let z : ◌≡◌ {A = ℕ} 0 1 = cc in absurd (omega arith)
    go (some t) l g = on t l (tests_in m t.after) refl g

-- no test is left
pub no_tests : (cs : List ℕ) (ts : List TypedTest) → length ts ≡ 0 → ts ≡ []
no_tests cs [] e = refl
no_tests cs (t ∷ ts) e = absurd (omega arith)

-- every mode is one of three
pub data Modes : List TypedTest → Type 0 where
  none_left : Modes []
  one_more : {t : TypedTest} {ts : List TypedTest} → t.mode < 3 → Modes ts → Modes (t ∷ ts)

modes_by : (ts : List TypedTest) → ((i : ℕ) → i < length ts → (get_or (all_expected ts) i no_test).mode < 3) → Modes ts
unfolding all_expected
modes_by [] h = none_left
modes_by (t ∷ ts) h = one_more (h 0 (omega arith)) (modes_by ts (λ i l. h (suc i) (omega arith)))

-- ---- the report that is left
abbrev pub left_over : List ℕ → ℕ → List TypedTest → List ℕ → Totals → List ℕ
left_over text i ts table totals = test_lines text i ts ++ summary (table_of table ts) (totals_of totals ts)

pub record Reporting (text numbers₀ : List ℕ) (n : ℕ) (whole out₀ out table : List ℕ) (totals : Totals) (at end i : ℕ) : Type 0 where
  pub still : ℕ
  pub adds : i + still ≡ n
  pub few : n ≤ 64
  pub rest : List TypedTest
  pub found : tests_in still (drop at numbers₀) ≡ some rest
  pub count : length rest ≡ still
  pub modes : Modes rest
  pub turned : Turned out₀ 0 whole out end (left_over text i rest table totals)
  pub size : length table ≡ cells
  pub low : (j : ℕ) → get_or table j 0 ≤ i
  pub good_low : totals.good ≤ i
  pub other_low : totals.other ≤ i
  pub missed_low : totals.missed ≤ i

-- where the first test is about to run
module _ (text numbers₀ : List ℕ) (p n : ℕ) (ts : List TypedTest) (e : tests_in n (drop p numbers₀) ≡ some ts) (l : length ts ≡ n)
    (fine : table_fault 0 (all_expected ts) (length ts) ≡ 0) where
  runnable : Runnable (length (all_expected ts)) 0 (all_expected ts)
  runnable =
      found_fine 0 (all_expected ts) (subst (λ (k : ℕ). table_fault 0 (all_expected ts) k ≡ 0) (sym (expected_many ts)) fine)

  pub reporting_starts : (out : List ℕ) → Reporting text numbers₀ n (tests_report 0 text ts) out out no_table no_totals p 0 0
  unfolding no_table
  reporting_starts out = record {
    still = n;
    adds = omega arith;
    few = let h = runnable.few in let k = expected_many ts in omega arith;
    rest = ts;
    found = e;
    count = l;
    modes = modes_by ts (λ i h. let k = expected_many ts in runnable.modes i (omega arith));
    turned = turns_begin out 0 (tests_report 0 text ts) (left_over text 0 ts no_table no_totals) refl;
    size = refl;
    low = λ j. let z = no_cell j in omega arith;
    good_low = omega arith;
    other_low = omega arith;
    missed_low = omega arith;
  }

-- ---- a step
raised_low : (table : List ℕ) (cell i : ℕ) → ((j : ℕ) → get_or table j 0 ≤ i) → (j : ℕ) → get_or (raised_cell table cell) j 0 ≤ i + 1
unfolding raised_cell
raised_low table cell i h j = go table cell j (get_or table cell 0 + 1) (let k = h cell in omega arith) h
  where
    go : (l : List ℕ) (c j v : ℕ) → v ≤ i + 1 → ((j : ℕ) → get_or l j 0 ≤ i) → get_or (set l c v) j 0 ≤ i + 1
    go [] c j v b h = let k = h j in omega arith
    go (x ∷ l) zero zero v b h = b
    go (x ∷ l) zero (suc j) v b h = let k = h (suc j) in omega arith
    go (x ∷ l) (suc c) zero v b h = let k = h zero in omega arith
    go (x ∷ l) (suc c) (suc j) v b h = go l c j v b (λ k. h (suc k))

-- each total grows by one at most
totals_low : (w : Verdict) (s : Totals) (i : ℕ) → (s.good ≤ i) × ((s.other ≤ i) × (s.missed ≤ i)) →
    ((totals_after w s).good ≤ i + 1) × (((totals_after w s).other ≤ i + 1) × ((totals_after w s).missed ≤ i + 1))
unfolding totals_after
totals_low Good s i (g, (o, m)) = (omega arith, (omega arith, omega arith))
totals_low Refused s i (g, (o, m)) = (omega arith, (omega arith, omega arith))
totals_low Other s i (g, (o, m)) = (omega arith, (omega arith, omega arith))
totals_low NotRun s i (g, (o, m)) = (omega arith, (omega arith, omega arith))

modes_first : (ts : List TypedTest) (t : TypedTest) (us : List TypedTest) → ts ≡ t ∷ us → Modes ts → (t.mode < 3) × Modes us
modes_first ts t us e h = go (subst Modes e h)
  where
    go : Modes (t ∷ us) → (t.mode < 3) × Modes us
    go (one_more a b) = (a, b)

line_first : (text : List ℕ) (i : ℕ) (t : TypedTest) (us : List TypedTest) (table : List ℕ) (totals : Totals) →
    left_over text i (t ∷ us) table totals ≡ test_line text i t
    ++ left_over text (i + 1) us (raised_cell table (cell_of t.mode (came_of t).number)) (totals_after (test_verdict t) totals)
unfolding test_lines table_of totals_of
line_first text i t us table totals =
    append_assoc (test_line text i t) (test_lines text (suc i) us) _
    ∙ ap (λ (k : ℕ). test_line text i t ++ left_over text k us (raised_cell table (cell_of t.mode (came_of t).number))
    (totals_after (test_verdict t) totals)) (sym (add-one i))

module _ (text numbers₀ : List ℕ) (n : ℕ) (whole out₀ out table : List ℕ) (totals : Totals) (at end i : ℕ)
    (g : Reporting text numbers₀ n whole out₀ out table totals at end i) where
  -- a test that is left
  pub record Going : Type 0 where
    pub others : ℕ
    pub one : g.still ≡ suc others
    pub next : Next (drop at numbers₀) others g.rest

  pub reporting_next : i < n → Going
  reporting_next h = go g.still refl
    where
      go : (k : ℕ) → g.still ≡ k → Going
      go zero e = let a = g.adds in absurd (omega arith)
      go (suc m) e = record {
        others = m;
        one = e;
        next = next_test m (drop at numbers₀) g.rest (subst (λ (k : ℕ). tests_in k (drop at numbers₀) ≡ some g.rest) e g.found);
      }

  module _ (x : Going) where
    abbrev now_tested : TypedTest
    now_tested = x.next.test

    abbrev then_table : List ℕ
    then_table = raised_cell table (cell_of now_tested.mode (came_of now_tested).number)

    abbrev then_totals : Totals
    then_totals = totals_after (test_verdict now_tested) totals

    pub mode_low : now_tested.mode < 3
    mode_low = (modes_first g.rest now_tested x.next.others x.next.are g.modes).0

    here : left_over text i g.rest table totals ≡ test_line text i now_tested
        ++ left_over text (i + 1) x.next.others then_table then_totals
    here = ap (λ (l : List TypedTest). left_over text i l table totals) x.next.are
        ∙ line_first text i now_tested x.next.others table totals

    module _ (mid : List ℕ) (q : Rattle.std.specs.Prelude.Option ℕ) (f : Appends (test_line text i now_tested) out end mid q) where
      pub reporting_stops : None ≡ q → Wrote whole out₀ mid None
      reporting_stops e =
          wrote whole out₀ mid None
          (turns_stop out₀ 0 whole out end (left_over text i g.rest table totals) g.turned (test_line text i now_tested)
          (left_over text (i + 1) x.next.others then_table then_totals) mid q here f e)

      pub reporting_goes : (k : ℕ) → q ≡ Some k → (next : ℕ) → now_tested.after ≡ drop next numbers₀ →
          Reporting text numbers₀ n whole out₀ mid then_table then_totals next k (i + 1)
      reporting_goes k e next a = record {
        still = x.others;
        adds = let s = g.adds in let o = x.one in omega arith;
        few = g.few;
        rest = x.next.others;
        found = ap (tests_in x.others) (sym a) ∙ x.next.follow;
        count =
            let c = g.count in
            let o = x.one in
            let l : length g.rest ≡ suc (length x.next.others) = ap length x.next.are in
            omega arith;
        modes = (modes_first g.rest now_tested x.next.others x.next.are g.modes).1;
        turned = turns_go out₀ 0 whole out end (left_over text i g.rest table totals) g.turned (test_line text i now_tested)
            (left_over text (i + 1) x.next.others then_table then_totals) mid q here f k e;
        size = raised_size table (cell_of now_tested.mode (came_of now_tested).number) ∙ g.size;
        low = raised_low table (cell_of now_tested.mode (came_of now_tested).number) i g.low;
        good_low = (totals_low (test_verdict now_tested) totals i (g.good_low, (g.other_low, g.missed_low))).0;
        other_low = (totals_low (test_verdict now_tested) totals i (g.good_low, (g.other_low, g.missed_low))).1.0;
        missed_low = (totals_low (test_verdict now_tested) totals i (g.good_low, (g.other_low, g.missed_low))).1.1;
      }

  -- no test is left
  pub reporting_ends : n ≤ i → (mid : List ℕ) (q : Rattle.std.specs.Prelude.Option ℕ) → Appends (summary table totals) out end mid q → Wrote whole out₀ mid q
  unfolding test_lines table_of totals_of
  reporting_ends h mid q f =
      let none : g.rest ≡ [] = no_tests (drop at numbers₀) g.rest (let a = g.adds in let c = g.count in omega arith) in
      let left : left_over text i g.rest table totals ≡ summary table totals =
      ap (λ (l : List TypedTest). left_over text i l table totals) none in
      wrote whole out₀ mid q
      (λ old all left_After go. f old all left_After
      (subst (λ (l : List ℕ). Going·text old all out end (l ++ left_After)) left (g.turned old all left_After go)))

-- ---- what the contracts say
-- the report on tests that may be run
abbrev pub whole_of : List ℕ → Option (List TypedTest) → List ℕ
whole_of text none = []
whole_of text (some ts) = tests_report 0 text ts

pub wrote_whole : (text : List ℕ) (n : ℕ) (o : Option (List TypedTest)) (out out' : List ℕ) (r : Rattle.std.specs.Prelude.Option ℕ) → MayRun n o →
    Wrote (whole_of text o) out out' r → ReportWrote text o out out' r
wrote_whole text n none out out' r h w = absurd h
wrote_whole text n (some ts) out out' r h w = w

pub whole_starts : (text numbers₀ : List ℕ) (p n : ℕ) → MayRun n (tests_in n (drop p numbers₀)) → (out : List ℕ) →
    Reporting text numbers₀ n (whole_of text (tests_in n (drop p numbers₀))) out out no_table no_totals p 0 0
whole_starts text numbers₀ p n h out = go (tests_in n (drop p numbers₀)) refl h
  where
    go : (o : Option (List TypedTest)) → tests_in n (drop p numbers₀) ≡ o → MayRun n o →
        Reporting text numbers₀ n (whole_of text o) out out no_table no_totals p 0 0
    go none e h = absurd h
    go (some ts) e h = reporting_starts text numbers₀ p n ts e h.0 h.1 out

-- the same table and totals, by other names
pub reporting_same : {text numbers₀ : List ℕ} {n : ℕ} {whole out₀ out table table' : List ℕ} {totals totals' : Totals} {at end i : ℕ} →
    table ≡ table' → totals ≡ totals' → Reporting text numbers₀ n whole out₀ out table totals at end i →
    Reporting text numbers₀ n whole out₀ out table' totals' at end i
reporting_same e f g = rw (e, f) at g
