-- Suites that are computed: an empty table, a table of 65 records, the greatest expected number, and four tests that come out as expected.
-- Assumes nothing.
use mathlib.Core.Path.{◌≡◌, refl}
use mathlib.Core.Bool.{true}
use mathlib.Core.List.{List, [], ◌∷◌, ◌++◌, map}
use Prim.Native.Nat.{ℕ}
use lib.ListN.{length, replicate}
use Rattle.theory.specs.Reading.{decode}
use Rattle.theory.specs.Join.{join}
use Rattle.theory.specs.Descr.{number}
use Rattle.theory.specs.Modes.{size, folded_in}
use Rattle.theory.specs.Located.{clash_node?}
use Rattle.theory.specs.Known.{N, A, B, P, A12, EPQ}
use Rattle.suite.specs.declared.test.Test.{Test}
use Rattle.suite.specs.Suite.{Night, no_test, length_fault, record_fault, fault_after, table_fault, test_words, test_answer}
use Rattle.suite.specs.Suite.{as_expected, begun_night, night_after, night_left, Suited}
use Rattle.suite.specs.Expected.{test_agrees?}

-- "An empty table": 0, and the record as it begins
pub empty_suite : (ws : List ℕ) (s : Night) → Suited ws [] s 0 (begun_night s.result s.working)
unfolding table_fault length_fault night_left night_after
empty_suite ws s = record { the_number = refl; the_rest = refl }

-- 65 records are 30, whatever they say
pub long_suite : (ws : List ℕ) → table_fault (length ws) (replicate 65 no_test) 65 ≡ 30
unfolding table_fault length_fault fault_after
long_suite ws = refl

-- "its greatest expected number to 11": 12 is 32
abbrev expecting : ℕ → Test
expecting n = record { mode = 0; number = n; readings = 0; first = 0; firsts = 0; second = 0; seconds = 0 }

pub greatest_number : record_fault 0 (expecting 11) ≡ 0
unfolding record_fault
greatest_number = refl

pub past_greatest : record_fault 0 (expecting 12) ≡ 32
unfolding record_fault
past_greatest = refl

-- A stands at 0, B at 6, P at 12, A12 at 28, EPQ at 34, N at 68
abbrev shelf : List ℕ
shelf = A ++ B ++ P ++ A12 ++ EPQ ++ N

-- A with P, mode 2: 0 and one reading; A with B, mode 0: 6; P with A12, mode 1: 10; EPQ with N, mode 2: 11
abbrev table : List Test
table =
    record { mode = 2; number = 0; readings = 1; first = 0; firsts = 6; second = 12; seconds = 16 }
    ∷ record { mode = 0; number = 6; readings = 0; first = 0; firsts = 6; second = 6; seconds = 6 }
    ∷ record { mode = 1; number = 10; readings = 0; first = 12; firsts = 16; second = 28; seconds = 6 }
    ∷ record { mode = 2; number = 11; readings = 0; first = 34; firsts = 34; second = 68; seconds = 3 } ∷ []

pub table_fine : table_fault (length shelf) table 4 ≡ 0
unfolding table_fault length_fault fault_after record_fault
table_fine = refl

pub all_agree : map (test_agrees? shelf table 2048 16384) (0 ∷ 1 ∷ 2 ∷ 3 ∷ []) ≡ true ∷ true ∷ true ∷ true ∷ []
unfolding test_answer test_words as_expected
    Rattle.descriptions.specs.Unified.unified Rattle.descriptions.specs.Unified.in_mode Rattle.descriptions.specs.Unified.beyond
    Rattle.descriptions.specs.Unified.complete Rattle.descriptions.specs.Answer.consistent Rattle.descriptions.specs.Unified.deliver
    Rattle.descriptions.specs.Unified.deliver_or decode Rattle.descriptions.specs.Modes.joined Rattle.descriptions.specs.Modes.quick
    Rattle.descriptions.specs.Modes.full size Rattle.descriptions.specs.Modes.tidy Rattle.descriptions.specs.Modes.finish
    Rattle.descriptions.specs.Modes.some_agree Rattle.descriptions.specs.Modes.prune Rattle.descriptions.specs.Modes.fold folded_in
    Rattle.descriptions.specs.Descr.agree Rattle.descriptions.specs.Descr.agreeing Rattle.descriptions.specs.Descr.readings number join
    clash_node?
all_agree = refl
