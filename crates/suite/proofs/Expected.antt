-- What the running record says after a suite: how many tests are as expected, and which is the first that is not. Assumes nothing.
use mathlib.Core.Path.{◌≡◌, refl, sym, ap, ◌∙◌, subst}
use mathlib.Core.Logic.{◌↔◌}
use mathlib.Core.Bool.{Bool, true, false, ◌&&◌}
use mathlib.Core.List.{List}
use Prim.Native.Nat.{ℕ, zero, suc, ◌≤◌, ◌<◌}
use native.Mathlib.Omega.{arith}
use lib.ListN.{length, get_or}
use lib.Dec.{T, ltb, eqb, eqb→eq}
use Rattle.theory.specs.Answer.{Answer}
use Rattle.theory.specs.Outcome.{Areas, Outcome}
use Rattle.theory.proofs.Reading.{reads}
use Rattle.descriptions.proofs.Table.{unified_given}
use Rattle.descriptions.proofs.Areas.{result_length, working_length}
use Rattle.descriptions.specs.Outcome.{worked}
use Rattle.suite.specs.declared.test.Test.{Test}
use Rattle.suite.specs.declared.running.Running.{Running}
use Rattle.suite.specs.Suite.{Night, no_test, test_call, test_answer, answer_then, result_after, as_expected, first_after, noted_as}
use Rattle.suite.specs.Suite.{noted_record, begun_night, test_left, night_step, night_after}
use Rattle.suite.specs.Expected.{TestAgrees, test_agrees?, passing, FirstUnexpected, nowhere, here}
use Rattle.suite.proofs.Laws.{both_agree, first_here, first_there}
use Rattle.suite.proofs.Runs.{Tested, less, most, tested}

-- ---- a test keeps the length of both areas, so each call is answered as if it were alone
module _ (ws : List ℕ) (t : Test) (s : Night) where
  abbrev lent : Areas
  lent = record { result = s.result; working = s.working }

  abbrev told : Answer
  told = answer_then ws t s

  call_made : Outcome (test_call ws t) lent (record { number = told.number; extent = told.extent; readings = told.readings; node = told.node })
      (record { result = result_after told s.result; working = worked told.number s.working })
  unfolding test_answer result_after
  call_made = record {
    answer = told;
    given = unified_given reads (test_call ws t) (length s.result) (length s.working);
    the_number = refl;
    the_extent = refl;
    the_readings = refl;
    the_node = refl;
    the_result = refl;
    the_working = refl;
  }

  step_rooms : (length (night_step ws t s).result ≡ length s.result) × (length (night_step ws t s).working ≡ length s.working)
  unfolding night_step test_left
  step_rooms = (
    result_length reads (test_call ws t) lent _ _ call_made,
    working_length reads (test_call ws t) lent _ _ call_made,
  )

module _ (ws : List ℕ) (ts : List Test) (y w : List ℕ) where
  abbrev night : ℕ → Night
  night i = night_after ws ts (begun_night y w) i

  pub rooms_stay : (i : ℕ) → (length (night i).result ≡ length y) × (length (night i).working ≡ length w)
  unfolding night_after
  rooms_stay zero = (refl, refl)
  rooms_stay (suc i) =
      let (a, b) = rooms_stay i in
      let (c, d) = step_rooms ws (get_or ts i no_test) (night i) in
      (c ∙ a, d ∙ b)

  pub alone : (t : Test) (i : ℕ) → answer_then ws t (night i) ≡ test_answer ws t (length y) (length w)
  alone t i = λ j. test_answer ws t ((rooms_stay i).0 j) ((rooms_stay i).1 j)

-- ---- "both numbers agree"
agreeing : (a b : Bool) → (a && b) ≡ true → T a × T b
agreeing true true e = (tt, tt)
agreeing true false e = absurd (subst T (sym e) tt)
agreeing false b e = absurd (subst T (sym e) tt)

pub expected_both : (t : Test) (n r : ℕ) → (as_expected t n r ≡ true) ↔ ((t.number ≡ n) × (t.readings ≡ r))
unfolding as_expected
expected_both t n r = (
  λ e. let (a, b) = agreeing (eqb t.number n) (eqb t.readings r) e in (eqb→eq t.number n a, eqb→eq t.readings r b),
  λ (a, b). sym (both_agree t n r a b),
)

-- ---- the record after i tests, by which of them pass
module _ (p : ℕ → Bool) where
  data FirstBefore (i : ℕ) : ℕ → Type 0 where
    never : ((j : ℕ) → j < i → p j ≡ true) → FirstBefore i 64
    once : (k : ℕ) → k < i → p k ≡ false → ((j : ℕ) → j < k → p j ≡ true) → FirstBefore i k

  record Recorded (i : ℕ) (h : Running) : Type 0 where
    run_is : h.run ≡ i
    good_is : h.good ≡ passing p i
    first_is : FirstBefore i h.first

  passing_more : (i : ℕ) → p i ≡ true → passing p (suc i) ≡ suc (passing p i)
  unfolding passing
  passing_more i e = ap (λ (b : Bool). elim b [ true ↦ suc (passing p i) | false ↦ passing p i ]) e

  passing_same : (i : ℕ) → p i ≡ false → passing p (suc i) ≡ passing p i
  unfolding passing
  passing_same i e = ap (λ (b : Bool). elim b [ true ↦ suc (passing p i) | false ↦ passing p i ]) e

  one_longer : (i : ℕ) → p i ≡ true → ((j : ℕ) → j < i → p j ≡ true) → (j : ℕ) → j < suc i → p j ≡ true
  one_longer i e f j h = go (ltb j i) (tested j i)
    where
      go : (b : Bool) → Tested j i b → p j ≡ true
      go true (less l) = f j l
      go false (most l) = let q : i ≡ j = omega (arith, h, l) in subst (λ (k : ℕ). p k ≡ true) q e

  first_stays : (i : ℕ) → p i ≡ true → (k : ℕ) → FirstBefore i k → FirstBefore (suc i) k
  first_stays i e k (never f) = never (one_longer i e f)
  first_stays i e k (once m l n f) = once m (omega (arith, l)) n f

  first_next : (i : ℕ) → i < 64 → p i ≡ false → (run : ℕ) → run ≡ i → (k : ℕ) → FirstBefore i k → FirstBefore (suc i) (first_after run k)
  first_next i small e run q k (never f) = subst (FirstBefore (suc i)) (sym q ∙ first_here run 64 refl) (once i (omega arith) e f)
  first_next i small e run q k (once m l n f) =
      subst (FirstBefore (suc i)) (first_there run m (λ z. omega (arith, z, l, small))) (once m (omega (arith, l)) n f)

  recorded_step : (i : ℕ) → i < 64 → (h : Running) → Recorded i h → Recorded (suc i) (noted_as (p i) h)
  unfolding noted_as
  recorded_step i small h r = go (p i) refl
    where
      go : (b : Bool) → p i ≡ b → Recorded (suc i) (noted_as b h)
      go true e =
          let a = r.run_is in let b = r.good_is in let c = passing_more i e in
          record { run_is = omega (arith, a); good_is = omega (arith, b, c); first_is = first_stays i e h.first r.first_is }
      go false e =
          let a = r.run_is in let b = r.good_is in let c = passing_same i e in
          record {
            run_is = omega (arith, a);
            good_is = omega (arith, b, c);
            first_is = first_next i small e h.run a h.first r.first_is;
          }

  recorded_none : Recorded 0 (record { run = 0; good = 0; first = 64 })
  unfolding passing
  recorded_none = record { run_is = refl; good_is = refl; first_is = never (λ j h. absurd (omega (arith, h))) }

module _ (ws : List ℕ) (ts : List Test) (y w : List ℕ) where
  abbrev pass : ℕ → Bool
  pass = test_agrees? ws ts (length y) (length w)

  recorded : (i : ℕ) → i ≤ 64 → Recorded pass i (night_after ws ts (begun_night y w) i).running
  unfolding night_after night_step test_left noted_record
  recorded zero h = recorded_none pass
  recorded (suc i) h =
      subst (λ (z : Answer). Recorded pass (suc i)
      (noted_record (get_or ts i no_test) z.number z.readings (night_after ws ts (begun_night y w) i).running))
      (sym (alone ws ts y w (get_or ts i no_test) i))
      (recorded_step pass i (omega (arith, h)) (night_after ws ts (begun_night y w) i).running (recorded i (omega (arith, h))))

  pub good_counts : (i : ℕ) → i ≤ 64 → (night_after ws ts (begun_night y w) i).running.good ≡ passing pass i
  good_counts i h = (recorded i h).good_is

  agrees : (j : ℕ) → pass j ≡ true → TestAgrees ws (get_or ts j no_test) (length y) (length w)
  agrees j = (expected_both (get_or ts j no_test) _ _).0

  differs : (j : ℕ) → pass j ≡ false → ¬ (TestAgrees ws (get_or ts j no_test) (length y) (length w))
  differs j e a = subst T (sym ((expected_both (get_or ts j no_test) _ _).1 a) ∙ e) tt

  unexpected : (k : ℕ) → FirstBefore pass (length ts) k → FirstUnexpected ws ts (length y) (length w) k
  unexpected k (never f) = nowhere (λ j h. agrees j (f j h))
  unexpected k (once i l n f) = here i l (differs i n) (λ j h. agrees j (f j h))

  pub first_tells : length ts ≤ 64 →
      FirstUnexpected ws ts (length y) (length w) (night_after ws ts (begun_night y w) (length ts)).running.first
  first_tells h = unexpected _ (recorded (length ts) h).first_is
