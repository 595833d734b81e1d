-- The tests that a text has: "number of records, each with mode, expected number, expected readings, and the two descriptions
-- with their word counts".
-- Assumes nothing: these are definitions.
use Rattle.std.specs.Prelude.{true, false, List, [], ◌∷◌, ℕ, zero, suc}
use Rattle.std.proofs.Math.Option.{Option, none, some}
use Rattle.call_text.specs.Token.{Start, is, over, bad, token}
use Rattle.call_text.specs.Call.{Taken, counted, done}
use Rattle.suite.specs.declared.test.Test.{Test}

-- a test as it is typed. `after_mode` is the text after its mode, `after` that after its last number
pub record TypedTest : Type 0 where
  pub mode : ℕ
  pub number : ℕ
  pub readings : ℕ
  pub first : List ℕ
  pub second : List ℕ
  pub after_mode : List ℕ
  pub after : List ℕ

-- a number has to stand there
abbrev pub number_then : {A : Type 0} → (ℕ → List ℕ → Option A) → Start → Option A
number_then f (is v rest) = f v rest
number_then f over = none
number_then f bad = none

-- a word count and so many words have to stand there
abbrev pub words_then : {A : Type 0} → (Taken → Option A) → Option Taken → Option A
words_then f none = none
words_then f (some t) = f t

-- what comes after mode, number and readings: both descriptions
unfoldable pub descriptions_then : ℕ → List ℕ → ℕ → ℕ → List ℕ → Option TypedTest
descriptions_then m named n k cs =
    words_then (λ p. words_then (λ q. some (record {
      mode = m;
      number = n;
      readings = k;
      first = p.0;
      second = q.0;
      after_mode = named;
      after = q.1;
    })) (counted p.1)) (counted cs)

-- the test that a text begins with
unfoldable pub leading_test : List ℕ → Option TypedTest
leading_test cs =
    number_then (λ m named.
    number_then (λ n rest. number_then (λ k left. descriptions_then m named n k left) (token rest)) (token named)) (token cs)

abbrev pub followed : TypedTest → Option (List TypedTest) → Option (List TypedTest)
followed t none = none
followed t (some ts) = some (t ∷ ts)

-- so many tests, and nothing after them
unfoldable pub tests_in : ℕ → List ℕ → Option (List TypedTest)
tests_in zero cs = elim (done cs) [ true ↦ some [] | false ↦ none ]
tests_in (suc n) cs = elim (leading_test cs) [ none ↦ none | some t ↦ followed t (tests_in n t.after) ]

unfoldable pub typed_suite : List ℕ → Option (List TypedTest)
typed_suite cs = number_then (λ n rest. tests_in n rest) (token cs)

-- what is expected of a test. No word area is lent, and no place in it is named
abbrev pub expected_test : ℕ → ℕ → ℕ → Test
expected_test m n k = record { mode = m; number = n; readings = k; first = 0; firsts = 0; second = 0; seconds = 0 }

abbrev pub expected_in : TypedTest → Test
expected_in t = expected_test t.mode t.number t.readings

unfoldable pub all_expected : List TypedTest → List Test
all_expected [] = []
all_expected (t ∷ ts) = expected_in t ∷ all_expected ts
