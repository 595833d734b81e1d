-- Which tests of a suite are as expected, and which is the first that is not. Each call is looked at by itself, in areas of the room that
-- was lent.
-- Assumes nothing: these are definitions.
use Rattle.std.specs.Prelude.{◌≡◌, Bool, true, false, ◌&&◌, List, ℕ, zero, suc, ◌<◌, length, get_or, eqb}
use Rattle.suite.specs.declared.test.Test.{Test}
use Rattle.suite.specs.Suite.{no_test, test_answer, as_expected}

-- "a test counts as expected exactly when its call was made and both numbers agree"
abbrev pub TestAgrees : List ℕ → Test → ℕ → ℕ → Type 0
TestAgrees ws t room work = (t.number ≡ (test_answer ws t room work).number) × (t.readings ≡ (test_answer ws t room work).readings)

-- the same of the test at i, as a test that computes
abbrev pub test_agrees? : List ℕ → List Test → ℕ → ℕ → ℕ → Bool
test_agrees? ws tests room work i =
    as_expected (get_or tests i no_test) (test_answer ws (get_or tests i no_test) room work).number
    (test_answer ws (get_or tests i no_test) room work).readings

-- the test at i is of this mode, and its call gives this number
abbrev pub test_gives? : List ℕ → List Test → ℕ → ℕ → ℕ → ℕ → ℕ → Bool
test_gives? ws tests room work mode number i =
    eqb (get_or tests i no_test).mode mode && eqb (test_answer ws (get_or tests i no_test) room work).number number

-- how many of the first n pass a test that computes
unfoldable pub passing : (ℕ → Bool) → ℕ → ℕ
passing p zero = 0
passing p (suc i) = elim (p i) [ true ↦ suc (passing p i) | false ↦ passing p i ]

-- "the first that wasn't (64 if none)"
pub data FirstUnexpected (ws : List ℕ) (tests : List Test) (room work : ℕ) : ℕ → Type 0 where
  nowhere : ((j : ℕ) → j < length tests → TestAgrees ws (get_or tests j no_test) room work) → FirstUnexpected ws tests room work 64
  here : (i : ℕ) → i < length tests → ¬ (TestAgrees ws (get_or tests i no_test) room work) →
      ((j : ℕ) → j < i → TestAgrees ws (get_or tests j no_test) room work) → FirstUnexpected ws tests room work i
