-- What is printed for a text, by what was read of it. Assumes nothing.
use mathlib.Core.Path.{◌≡◌, refl, sym, ap, subst, ◌∙◌}
use mathlib.Core.Bool.{Bool, false}
use mathlib.Core.Option.{Option, none, some}
use mathlib.Core.List.{List, [], ◌∷◌, ◌++◌}
use Prim.Native.Nat.{ℕ, zero, suc, ◌≤◌, ◌<◌}
use native.Mathlib.Omega.{arith}
use lib.ListN.{length, drop}
use borrow.Author.Tests.{lt-ltb, le-ltb}
use Rattle.call_text.specs.Token.{is, token, placed}
use Rattle.call_text.specs.declared.number.Token.{Token}
use Rattle.call_text.specs.declared.number.Token.TheVariants.{Is}
use Rattle.call_text.proofs.Tokens.{meant, said}
use Rattle.call_text.proofs.Runs.{Other}
use Rattle.answer_text.specs.Answer.{newline, answer_label, labelled, bad_text, Wrote}
use Rattle.answer_text.specs.Going.{Appends}
use Rattle.std.specs.Prelude.{Some, None, Result}
use Rattle.std.proofs.lemmas.Option.{same_Some}
use Rattle.suite.specs.declared.checks.Refusal.{Refusal}
use Rattle.answer_text.proofs.Goings.{wrote}
use Rattle.suite.specs.Suite.{number_of, table_fault}
use Rattle.suite_reading.specs.Text.{next_named, blanked}
use Rattle.suite_reading.specs.Tests.{TypedTest, number_then, tests_in, typed_suite, all_expected}
use Rattle.suite_reading.specs.Finding.{Judgement, Judges, fine, bad}
use Rattle.suite_reading.proofs.Found.{number_stops}
use Rattle.suite_text.specs.Report.{tests_report, reported, typed_printed, suite_text_limit, suite_printed, MayRun, ReportWrote}

-- ---- a text without names is as long as it was
blanked_size : (named : Bool) (cs : List ℕ) → length (blanked named cs) ≡ length cs
unfolding blanked
blanked_size named [] = refl
blanked_size named (c ∷ cs) = ap suc (blanked_size (next_named named c) cs)

pub blanked_length : (text numbers : List ℕ) → numbers ≡ blanked false text → length numbers ≡ length text
blanked_length text numbers e = ap length e ∙ blanked_size false text

-- ---- what was judged
judged_none : (n : ℕ) (o : Option (List TypedTest)) (j : Judgement) → Judges n o j → j ≡ None → o ≡ none
judged_none n o j (fine ts v l f) e = let z : ◌≡◌ {A = ℕ} 0 1 = cc in absurd (omega arith)
judged_none n o j bad e = refl

record JudgedFine (n : ℕ) (o : Option (List TypedTest)) (refusal : ℕ) : Type 0 where
  tests : List TypedTest
  are : o ≡ some tests
  count : length tests ≡ n
  fault : table_fault 0 (all_expected tests) (length tests) ≡ refusal

judged_some : (n : ℕ) (o : Option (List TypedTest)) (j : Judgement) → Judges n o j → (v : Result (Unit {0}) Refusal) → j ≡ Some v
    → JudgedFine n o (number_of v)
judged_some n o j (fine ts u l f) v e = record { tests = ts; are = refl; count = l; fault = sym f ∙ ap number_of (same_Some _ _ e) }
judged_some n o j bad v e = let z : ◌≡◌ {A = ℕ} 0 1 = cc in absurd (omega arith)

report_refused : (text : List ℕ) (ts : List TypedTest) (r : ℕ) → (r ≡ 0 → ⊥) → tests_report r text ts ≡ labelled answer_label r ++ newline
report_refused text ts zero h = absurd (h refl)
report_refused text ts (suc n) h = refl

-- ---- what is printed
module _ (text numbers : List ℕ) (same_text : numbers ≡ blanked false text) where
  abbrev by_tests : Option (List TypedTest) → List ℕ
  by_tests none = bad_text
  by_tests (some ts) = reported text ts

  printed_by : (o : Option (List TypedTest)) → typed_suite numbers ≡ o → typed_printed text ≡ by_tests o
  unfolding typed_printed
  printed_by o e = go (typed_suite (blanked false text)) ∙ ap (λ (l : List ℕ). by_tests (typed_suite l)) (sym same_text) ∙ ap by_tests e
    where
      go : (o : Option (List TypedTest)) → elim o [ none ↦ bad_text | some ts ↦ reported text ts ] ≡ by_tests o
      go none = refl
      go (some ts) = refl

  module _ (r : Token) (read : r ≡ placed numbers (token (drop 0 numbers))) where
    suite_by : typed_suite numbers ≡ number_then (λ n rest. tests_in n rest) (meant numbers r)
    unfolding typed_suite
    suite_by = ap (number_then (λ n rest. tests_in n rest)) (sym (said numbers 0 r read))

    -- no number stands there
    pub printed_no_number : Other r → bad_text ≡ typed_printed text
    printed_no_number other = sym (printed_by none (suite_by ∙ number_stops (λ n rest. tests_in n rest) numbers (meant numbers r) r refl other))

    module _ (n next : ℕ) (e : r ≡ Is n next) where
      suite_is : typed_suite numbers ≡ tests_in n (drop next numbers)
      suite_is = suite_by ∙ ap (λ (t : Token). number_then (λ n rest. tests_in n rest) (meant numbers t)) e

      module _ (j : Judgement) (judges : Judges n (tests_in n (drop next numbers)) j) where
        pub printed_bad_tests : j ≡ None → bad_text ≡ typed_printed text
        printed_bad_tests b = sym (printed_by none (suite_is ∙ judged_none n (tests_in n (drop next numbers)) j judges b))

        module _ (verdict : Result (Unit {0}) Refusal) (b : j ≡ Some verdict) where
          abbrev refusal : ℕ
          refusal = number_of verdict

          there : JudgedFine n (tests_in n (drop next numbers)) refusal
          there = judged_some n (tests_in n (drop next numbers)) j judges verdict b

          is_report : typed_printed text ≡ tests_report refusal text there.tests
          unfolding reported
          is_report = printed_by (some there.tests) (suite_is ∙ there.are)
              ∙ ap (λ (k : ℕ). tests_report k text there.tests) there.fault

          -- a suite that is refused
          pub wrote_refused : (refusal ≡ 0 → ⊥) → (v : ℕ) → v ≡ refusal → (out out' : List ℕ) (w : Rattle.std.specs.Prelude.Option ℕ) →
              Appends (labelled answer_label v ++ newline) out 0 out' w → Wrote (typed_printed text) out out' w
          wrote_refused h v same out out' w f =
              let line : labelled answer_label v ++ newline ≡ typed_printed text =
              ap (λ (k : ℕ). labelled answer_label k ++ newline) same ∙ sym (is_report ∙ report_refused text there.tests refusal h) in
              subst (λ (l : List ℕ). Wrote l out out' w) line (wrote (labelled answer_label v ++ newline) out out' w f)

          -- one that is run
          pub may_run : refusal ≡ 0 → MayRun n (tests_in n (drop next numbers))
          may_run z = subst (MayRun n) (sym there.are) (there.count, there.fault ∙ z)

          pub wrote_run : refusal ≡ 0 → (out out' : List ℕ) (w : Rattle.std.specs.Prelude.Option ℕ) → ReportWrote text (tests_in n (drop next numbers)) out out' w →
              Wrote (typed_printed text) out out' w
          wrote_run z out out' w f =
              let line : tests_report 0 text there.tests ≡ typed_printed text =
              sym (is_report ∙ ap (λ (k : ℕ). tests_report k text there.tests) z) in
              let report : Wrote (tests_report 0 text there.tests) out out' w =
              subst (λ (o : Option (List TypedTest)). ReportWrote text o out out' w) there.are f in
              subst (λ (l : List ℕ). Wrote l out out' w) line report

module _ (text : List ℕ) where
  pub printed_long : suite_text_limit < length text → bad_text ≡ suite_printed text
  unfolding suite_printed
  printed_long h = let e = lt-ltb suite_text_limit (length text) h in rw (e, suite_printed)

  pub printed_short : length text ≤ suite_text_limit → typed_printed text ≡ suite_printed text
  unfolding suite_printed
  printed_short h = let e = le-ltb suite_text_limit (length text) h in rw (e, suite_printed)
