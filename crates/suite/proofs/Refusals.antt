-- A suite is refused exactly when a rule says so. Assumes nothing.
use mathlib.Core.Path.{◌≡◌, refl, sym, ap, ◌∙◌, subst}
use mathlib.Core.Logic.{◌⊎◌, inl, inr, ⊎_elim}
use mathlib.Core.Bool.{Bool, true, false}
use mathlib.Core.List.{List}
use Prim.Native.Nat.{ℕ, zero, suc, ◌+◌, ◌≤◌, ◌<◌}
use native.Mathlib.Omega.{arith}
use lib.ListN.{length, get_or}
use lib.Dec.{ltb}
use Rattle.suite.specs.declared.test.Test.{Test}
use Rattle.suite.specs.Suite.{no_test, record_fault, fault_after, table_fault}
use Rattle.suite.specs.Refusals.{BeyondArea, OutOfTable, FaultFree, Refuses, over, beyond, outside, runs}
use Rattle.suite.proofs.Laws.{not_many}
use Rattle.suite.proofs.Runs.{Tested, less, most, tested, found_long}

-- what the number of a record says of it
data RecordView (space : ℕ) (t : Test) : ℕ → Type 0 where
  past : BeyondArea space t → RecordView space t 31
  out : ¬ (BeyondArea space t) → OutOfTable t → RecordView space t 32
  clean : ¬ (BeyondArea space t ⊎ OutOfTable t) → RecordView space t 0

within : (space : ℕ) (t : Test) → t.first + t.firsts ≤ space → t.second + t.seconds ≤ space → ¬ (BeyondArea space t)
within space t f s (inl h) = omega (arith, f, h)
within space t f s (inr h) = omega (arith, s, h)

record_view : (space : ℕ) (t : Test) → RecordView space t (record_fault space t)
unfolding record_fault
record_view space t =
    go (ltb space (t.first + t.firsts)) (ltb space (t.second + t.seconds)) (ltb 2 t.mode) (ltb 11 t.number)
    (tested space (t.first + t.firsts)) (tested space (t.second + t.seconds)) (tested 2 t.mode) (tested 11 t.number)
  where
    go : (a b c d : Bool) → Tested space (t.first + t.firsts) a → Tested space (t.second + t.seconds) b →
        Tested 2 t.mode c → Tested 11 t.number d →
        RecordView space t (elim a [
          | true ↦ 31
          | false ↦ elim b [ true ↦ 31 | false ↦ elim c [ true ↦ 32 | false ↦ elim d [ true ↦ 32 | false ↦ 0 ] ] ]
        ])
    go true b c d (less h) y z w = past (inl h)
    go false true c d x (less h) z w = past (inr h)
    go false false true d (most f) (most s) (less h) w = out (within space t f s) (inl h)
    go false false false true (most f) (most s) z (less h) = out (within space t f s) (inr h)
    go false false false false (most f) (most s) (most m) (most n) =
        clean (λ u. ⊎_elim (within space t f s) (λ v. ⊎_elim (λ h. omega (arith, h, m)) (λ h. omega (arith, h, n)) v) u)

module _ (space : ℕ) (t : Test) where
  is_beyond : BeyondArea space t → record_fault space t ≡ 31
  is_beyond b = go (record_fault space t) (record_view space t)
    where
      go : (k : ℕ) → RecordView space t k → k ≡ 31
      go k (past h) = refl
      go k (out n o) = absurd (n b)
      go k (clean n) = absurd (n (inl b))

  is_outside : ¬ (BeyondArea space t) → OutOfTable t → record_fault space t ≡ 32
  is_outside n o = go (record_fault space t) (record_view space t)
    where
      go : (k : ℕ) → RecordView space t k → k ≡ 32
      go k (past h) = absurd (n h)
      go k (out m p) = refl
      go k (clean m) = absurd (m (inr o))

  is_clean : ¬ (BeyondArea space t ⊎ OutOfTable t) → record_fault space t ≡ 0
  is_clean n = go (record_fault space t) (record_view space t)
    where
      go : (k : ℕ) → RecordView space t k → k ≡ 0
      go k (past h) = absurd (n (inl h))
      go k (out m p) = absurd (n (inr p))
      go k (clean m) = refl

module _ (space : ℕ) (ts : List Test) where
  -- nothing is found where no record is at fault, and what is found stays
  none_found : length ts ≤ 64 → (k : ℕ) → FaultFree space ts k → table_fault space ts k ≡ 0
  unfolding table_fault fault_after
  none_found few zero f = sym (not_many (length ts) few)
  none_found few (suc k) f =
      ap (λ (z : ℕ). fault_after z space (get_or ts k no_test)) (none_found few k (λ j h. f j (omega (arith, h))))
      ∙ is_clean space (get_or ts k no_test) (f k (omega arith))

  found_stays : (k m n : ℕ) → k ≤ n → table_fault space ts k ≡ suc m → table_fault space ts n ≡ suc m
  unfolding table_fault fault_after
  found_stays k m zero h e = let q : k ≡ 0 = omega (arith, h) in subst (λ (i : ℕ). table_fault space ts i ≡ suc m) q e
  found_stays k m (suc n) h e =
      go (ltb k (suc n)) (tested k (suc n))
      (λ l. ap (λ (z : ℕ). fault_after z space (get_or ts n no_test)) (found_stays k m n (omega (arith, l)) e))
    where
      go : (b : Bool) → Tested k (suc n) b → (k < suc n → table_fault space ts (suc n) ≡ suc m) → table_fault space ts (suc n) ≡ suc m
      go true (less l) f = f l
      go false (most l) f =
          let q : k ≡ suc n = omega (arith, h, l) in subst (λ (i : ℕ). table_fault space ts i ≡ suc m) q e

  found_at : (i m : ℕ) → length ts ≤ 64 → i < length ts → FaultFree space ts i → record_fault space (get_or ts i no_test) ≡ suc m →
      table_fault space ts (length ts) ≡ suc m
  unfolding table_fault fault_after
  found_at i m few h f e =
      let d : table_fault space ts (suc i) ≡ suc m =
      ap (λ (z : ℕ). fault_after z space (get_or ts i no_test)) (none_found few i f) ∙ e in
      found_stays (suc i) m (length ts) (omega (arith, h)) d

  -- each rule gives its number
  pub refuses_number : (m : ℕ) → Refuses space ts m → table_fault space ts (length ts) ≡ m
  refuses_number m (over h) = found_long space ts (length ts) h
  refuses_number m (beyond few i h f b) = found_at i 30 few h f (is_beyond space (get_or ts i no_test) b)
  refuses_number m (outside few i h f n o) = found_at i 31 few h f (is_outside space (get_or ts i no_test) n o)
  refuses_number m (runs few f) = none_found few (length ts) f

  -- what is known once k records are looked at
  data Upto (k : ℕ) : ℕ → Type 0 where
    free : FaultFree space ts k → Upto k 0
    hit_31 : (i : ℕ) → i < k → FaultFree space ts i → BeyondArea space (get_or ts i no_test) → Upto k 31
    hit_32 : (i : ℕ) → i < k → FaultFree space ts i → ¬ (BeyondArea space (get_or ts i no_test)) → OutOfTable (get_or ts i no_test) →
        Upto k 32

  one_further : (k : ℕ) → FaultFree space ts k → ¬ (BeyondArea space (get_or ts k no_test) ⊎ OutOfTable (get_or ts k no_test)) →
      FaultFree space ts (suc k)
  one_further k f n j h = go (ltb j k) (tested j k)
    where
      go : (b : Bool) → Tested j k b → ¬ (BeyondArea space (get_or ts j no_test) ⊎ OutOfTable (get_or ts j no_test))
      go true (less l) = f j l
      go false (most l) =
          let e : k ≡ j = omega (arith, h, l) in
          subst (λ (i : ℕ). ¬ (BeyondArea space (get_or ts i no_test) ⊎ OutOfTable (get_or ts i no_test))) e n

  looked : (k : ℕ) → FaultFree space ts k → (z : ℕ) → RecordView space (get_or ts k no_test) z → Upto (suc k) z
  looked k f z (past b) = hit_31 k (omega arith) f b
  looked k f z (out n o) = hit_32 k (omega arith) f n o
  looked k f z (clean n) = free (one_further k f n)

  next_upto : (k z : ℕ) → Upto k z → Upto (suc k) (fault_after z space (get_or ts k no_test))
  unfolding fault_after
  next_upto k z (free f) = looked k f (record_fault space (get_or ts k no_test)) (record_view space (get_or ts k no_test))
  next_upto k z (hit_31 i l f b) = hit_31 i (omega (arith, l)) f b
  next_upto k z (hit_32 i l f n o) = hit_32 i (omega (arith, l)) f n o

  upto : length ts ≤ 64 → (k : ℕ) → Upto k (table_fault space ts k)
  unfolding table_fault
  upto few zero = subst (Upto 0) (not_many (length ts) few) (free (λ j h. absurd (omega (arith, h))))
  upto few (suc k) = next_upto k (table_fault space ts k) (upto few k)

  upto_refuses : length ts ≤ 64 → (z : ℕ) → Upto (length ts) z → Refuses space ts z
  upto_refuses few z (free f) = runs few f
  upto_refuses few z (hit_31 i l f b) = beyond few i l f b
  upto_refuses few z (hit_32 i l f n o) = outside few i l f n o

  -- the number is given by its rule
  pub number_refuses : Refuses space ts (table_fault space ts (length ts))
  number_refuses = go (ltb 64 (length ts)) (tested 64 (length ts))
    where
      go : (b : Bool) → Tested 64 (length ts) b → Refuses space ts (table_fault space ts (length ts))
      go true (less h) = subst (Refuses space ts) (sym (found_long space ts (length ts) h)) (over h)
      go false (most h) = upto_refuses h (table_fault space ts (length ts)) (upto h (length ts))
