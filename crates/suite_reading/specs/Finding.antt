-- Where the words of a test were found in a text.
-- Assumes nothing: these are definitions.
use Rattle.std.specs.Prelude.{◌≡◌, List, ℕ, ◌≤◌, length, drop, Some, None, Result}
use Rattle.std.proofs.Math.Option.{Option, none, some}
use Rattle.call_text.specs.Call.{words_in, count_limit}
use Rattle.suite.specs.Suite.{number_of, table_fault}
use Rattle.suite_reading.specs.Tests.{TypedTest, all_expected}
use Rattle.suite_reading.specs.declared.tests.Place.{Place}
use Rattle.suite.specs.declared.checks.Refusal.{Refusal}

-- these words, so many, stand in a text from a place on
pub record WordsStand (text : List ℕ) (at count : ℕ) (words : List ℕ) : Type 0 where
  pub few : count ≤ count_limit
  pub left : List ℕ
  pub stand : words_in count (drop at text) ≡ some (words, left)

-- what is expected of a test, and where its parts stand
pub record TestPlaces (text : List ℕ) (t : TypedTest) (p : Place) : Type 0 where
  pub mode : p.mode ≡ t.mode
  pub number : p.number ≡ t.number
  pub readings : p.readings ≡ t.readings
  pub after_mode : t.after_mode ≡ drop p.named text
  pub the_first : WordsStand text p.first p.firsts t.first
  pub the_second : WordsStand text p.second p.seconds t.second
  pub after : t.after ≡ drop p.next text

-- a test was found; or there is none
abbrev pub Found : Type 0
Found = Rattle.std.specs.Prelude.Option Place

pub data FindsTest (text : List ℕ) : Option TypedTest → Found → Type 0 where
  there : (t : TypedTest) (p : Place) → TestPlaces text t p → FindsTest text (some t) (Some p)
  nowhere : FindsTest text none None

-- the tests that are there are refused with this number, or run where it is 0; or there are no such tests
abbrev pub Judgement : Type 0
Judgement = Rattle.std.specs.Prelude.Option (Result (Unit {0}) Refusal)

pub data Judges (n : ℕ) : Option (List TypedTest) → Judgement → Type 0 where
  fine : (ts : List TypedTest) (r : Result (Unit {0}) Refusal) → length ts ≡ n
      → number_of r ≡ table_fault 0 (all_expected ts) (length ts) → Judges n (some ts) (Some r)
  bad : Judges n none None
