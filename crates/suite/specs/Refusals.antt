-- When a suite is refused, rule by rule.
-- Assumes nothing: these are definitions.
use Rattle.std.specs.Prelude.{◌⊎◌, List, ℕ, ◌+◌, ◌≤◌, ◌<◌, length, get_or}
use Rattle.suite.specs.declared.test.Test.{Test}
use Rattle.suite.specs.Suite.{no_test}

-- "31 a record names words beyond the area"
abbrev pub BeyondArea : ℕ → Test → Type 0
BeyondArea space t = (space < t.first + t.firsts) ⊎ (space < t.second + t.seconds)

-- "32 a record with a mode above 2 or an expected number above" the greatest, which is 11
abbrev pub OutOfTable : Test → Type 0
OutOfTable t = (2 < t.mode) ⊎ (11 < t.number)

-- none of the first n records is at fault
abbrev pub FaultFree : ℕ → List Test → ℕ → Type 0
FaultFree space tests n = (j : ℕ) → j < n → ¬ (BeyondArea space (get_or tests j no_test) ⊎ OutOfTable (get_or tests j no_test))

-- each number under its rule: "30 over 64 records … of 31 and 32 the lower record comes first, then 31"; 0 where the tests run
pub data Refuses (space : ℕ) (tests : List Test) : ℕ → Type 0 where
  over : 64 < length tests → Refuses space tests 30
  beyond : length tests ≤ 64 → (i : ℕ) → i < length tests → FaultFree space tests i →
      BeyondArea space (get_or tests i no_test) → Refuses space tests 31
  outside : length tests ≤ 64 → (i : ℕ) → i < length tests → FaultFree space tests i →
      ¬ (BeyondArea space (get_or tests i no_test)) → OutOfTable (get_or tests i no_test) → Refuses space tests 32
  runs : length tests ≤ 64 → FaultFree space tests (length tests) → Refuses space tests 0
