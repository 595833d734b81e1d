-- What comes of a test: its words are read, and its call is made. Assumes nothing.
use mathlib.Core.Path.{◌≡◌, ap, sym, ◌∙◌}
use mathlib.Core.List.{List, ◌++◌}
use Prim.Native.Nat.{ℕ, ◌<◌}
use native.Mathlib.Omega.{arith}
use lib.ListN.{length, take, drop}
use lib.Seq.{take-append_seam}
use Rattle.theory.specs.Limits.{working_size}
use Rattle.theory.specs.Answer.{Answer, Call}
use Rattle.theory.specs.Unified.{unified}
use Rattle.theory.specs.Outcome.{Areas, Outcome, Row}
use Rattle.theory.proofs.Table.{outcome_answer}
use Rattle.reply.specs.Printed.{result_size}
use Rattle.call_text.specs.Call.{words_in}
use Rattle.call_text.specs.Finding.{Puts}
use Rattle.call_text.proofs.Runs.{words_length}
use Rattle.suite.proofs.Runs.{unified_small}
use Rattle.suite_reading.specs.Tests.{TypedTest}
use Rattle.suite_reading.specs.declared.tests.Place.{Place}
use Rattle.suite_reading.specs.Finding.{WordsStand}
use Rattle.verdicts.specs.Verdicts.{numbers}
use Rattle.suite_text.specs.Report.{call_answer, came_of, TestAnswers}

-- every test is answered with a number of the table
pub number_low : (t : TypedTest) → (came_of t).number < numbers
unfolding call_answer
number_low t = unified_small (record { mode = t.mode; first = t.first; second = t.second }) result_size working_size

-- the words stand at the start of the area that they were read into
pub words-read : (text : List ℕ) (at count : ℕ) (words dst dst' : List ℕ) → WordsStand text at count words →
    Puts (words_in count (drop at text)) dst dst' → take count dst' ≡ words
words-read text at count words dst dst' s puts =
    let put : dst' ≡ words ++ drop (length words) dst = puts (words, s.left) s.stand in
    let long : length words ≡ count = words_length count (drop at text) (words, s.left) s.stand in
    rw (put, sym long) (take-append_seam words (drop (length words) dst))

-- the answer of a call in areas of these sizes
pub call-answered : (c : Call) (before after : Areas) (o : Row) → length before.result ≡ result_size →
    length before.working ≡ working_size → Outcome c before o after →
    (o.number ≡ (unified c result_size working_size).number) × (o.readings ≡ (unified c result_size working_size).readings)
call-answered c before after o rooms works p =
    let y : unified c (length before.result) (length before.working) ≡ p.answer = outcome_answer c before o after p in
    let z : p.answer ≡ unified c result_size working_size = rw (rooms, works) at (sym y) in
    (p.the_number ∙ ap (λ (v : Answer). v.number) z, p.the_readings ∙ ap (λ (v : Answer). v.readings) z)

-- and so it is of the words that stand in the text
module _ (text : List ℕ) (p : Place) (first second first' second' : List ℕ)
    (one : Puts (words_in p.firsts (drop p.first text)) first first')
    (two : Puts (words_in p.seconds (drop p.second text)) second second') (before after : Areas) (o : Row)
    (rooms : length before.result ≡ result_size) (works : length before.working ≡ working_size)
    (out : Outcome (record { mode = p.mode; first = take p.firsts first'; second = take p.seconds second' }) before o after) where
  pub test-answered : TestAnswers text p o.number o.readings
  unfolding call_answer
  test-answered ws vs s t =
      let a : take p.firsts first' ≡ ws = words-read text p.first p.firsts ws first first' s one in
      let b : take p.seconds second' ≡ vs = words-read text p.second p.seconds vs second second' t two in
      rw (a, b) at (call-answered _ before after o rooms works out)
