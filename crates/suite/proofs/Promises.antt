-- What the statement of a suite gives, with no code: one outcome for each suite, counts that add up to the tests run, what counts,
-- `good` and `first` say, and when a suite is refused. Assumes nothing.
use mathlib.Core.Path.{◌≡◌, refl, sym, ap, ◌∙◌, subst}
use mathlib.Core.Logic.{◌↔◌}
use mathlib.Core.Bool.{true}
use mathlib.Core.List.{List, []}
use Prim.Native.Nat.{ℕ, zero, suc}
use native.Mathlib.Omega.{arith}
use lib.ListN.{length, get_or}
use Rattle.suite.specs.declared.test.Test.{Test}
use Rattle.suite.specs.Suite.{Night, no_test, table_fault, Suited, night_left, counts_sum, night_after, begun_night}
use Rattle.suite.specs.Refusals.{Refuses}
use Rattle.suite.specs.Expected.{TestAgrees, test_agrees?, test_gives?, passing, FirstUnexpected}
use Rattle.suite.proofs.Runs.{NightKept, kept, found_fine}
use Rattle.suite.proofs.Refusals.{refuses_number, number_refuses}
use Rattle.suite.proofs.Expected.{expected_both, good_counts, first_tells}
use Rattle.suite.proofs.Cells.{cells_count}

-- one outcome
pub one_suite : (ws : List ℕ) (ts : List Test) (s : Night) (n n' : ℕ) (l l' : Night) → Suited ws ts s n l → Suited ws ts s n' l' →
    (n ≡ n') × (l ≡ l')
one_suite ws ts s n n' l l' p q = (p.the_number ∙ sym q.the_number, p.the_rest ∙ sym q.the_rest)

-- a suite is refused exactly when a rule says so
pub refused_iff : (ws : List ℕ) (ts : List Test) (s : Night) (n : ℕ) (l : Night) → Suited ws ts s n l →
    (m : ℕ) → (n ≡ m) ↔ Refuses (length ws) ts m
refused_iff ws ts s n l p m = (
  λ e. subst (Refuses (length ws) ts) (sym p.the_number ∙ e) (number_refuses (length ws) ts),
  λ r. p.the_number ∙ refuses_number (length ws) ts m r,
)

-- "leaving record and areas as they came"
pub refused_keeps : (ws : List ℕ) (ts : List Test) (s : Night) (n : ℕ) (l : Night) → Suited ws ts s n l → ¬ (n ≡ 0) → l ≡ s
unfolding night_left
refused_keeps ws ts s n l p h =
    p.the_rest ∙ go (table_fault (length ws) ts (length ts)) (λ e. h (p.the_number ∙ e))
  where
    go : (k : ℕ) → ¬ (k ≡ 0) → night_left k ws ts s ≡ s
    go zero f = absurd (f refl)
    go (suc k) f = refl

-- a suite that is not refused leaves what all its tests leave
pub run_all : (ws : List ℕ) (ts : List Test) (s l : Night) → Suited ws ts s 0 l →
    l ≡ night_after ws ts (begun_night s.result s.working) (length ts)
unfolding night_left
run_all ws ts s l p = p.the_rest ∙ ap (λ (k : ℕ). night_left k ws ts s) (sym p.the_number)

-- "The counts must add up to the tests run"
pub sum_is_run : (ws : List ℕ) (ts : List Test) (s l : Night) → Suited ws ts s 0 l →
    (counts_sum l.counts ≡ length ts) × (l.running.run ≡ length ts)
sum_is_run ws ts s l p =
    let f = found_fine (length ws) ts (sym p.the_number) in
    let k : NightKept (night_after ws ts (begun_night s.result s.working) (length ts)) (length ts) =
    kept ws ts s.result s.working (length ts) f (length ts) (omega arith) in
    let e : l ≡ night_after ws ts (begun_night s.result s.working) (length ts) = run_all ws ts s l p in
    (ap (λ (z : Night). counts_sum z.counts) e ∙ k.counted, ap (λ (z : Night). z.running.run) e ∙ k.run_so_far)

-- "counts by mode and number": each cell is how many tests of its mode there are whose call gives its number
pub counts_are : (ws : List ℕ) (ts : List Test) (s l : Night) → Suited ws ts s 0 l → (m k : ℕ) →
    get_or (get_or l.counts m []) k 0 ≡ passing (test_gives? ws ts (length s.result) (length s.working) m k) (length ts)
counts_are ws ts s l p m k =
    let f = found_fine (length ws) ts (sym p.the_number) in
    ap (λ (z : Night). get_or (get_or z.counts m []) k 0) (run_all ws ts s l p)
    ∙ cells_count ws ts s.result s.working (length ts) f m k (length ts) (omega arith)

-- "tests as expected": how many there are whose number and readings both agree with what the table of numbers answers
pub expected_iff : (ws : List ℕ) (ts : List Test) (s l : Night) → Suited ws ts s 0 l →
    (l.running.good ≡ passing (test_agrees? ws ts (length s.result) (length s.working)) (length ts))
    × ((i : ℕ) → (test_agrees? ws ts (length s.result) (length s.working) i ≡ true)
    ↔ TestAgrees ws (get_or ts i no_test) (length s.result) (length s.working))
expected_iff ws ts s l p =
    let f = found_fine (length ws) ts (sym p.the_number) in (
      ap (λ (z : Night). z.running.good) (run_all ws ts s l p) ∙ good_counts ws ts s.result s.working (length ts) f.few,
      λ i. expected_both (get_or ts i no_test) _ _,
    )

-- "the first that wasn't (64 if none)"
pub first_is : (ws : List ℕ) (ts : List Test) (s l : Night) → Suited ws ts s 0 l →
    FirstUnexpected ws ts (length s.result) (length s.working) l.running.first
first_is ws ts s l p =
    let f = found_fine (length ws) ts (sym p.the_number) in
    subst (λ (z : Night). FirstUnexpected ws ts (length s.result) (length s.working) z.running.first)
    (sym (run_all ws ts s l p)) (first_tells ws ts s.result s.working f.few)
