-- What a cell of the counts says after a suite: how many tests of its mode give its number. Assumes nothing.
use mathlib.Core.Path.{◌≡◌, refl, sym, ap, ◌∙◌, subst}
use mathlib.Core.Bool.{Bool, true, false, ◌&&◌}
use mathlib.Core.List.{List, [], ◌∷◌}
use Prim.Native.Nat.{ℕ, zero, suc, ◌+◌, ◌≤◌, ◌<◌}
use native.Mathlib.Omega.{arith}
use lib.ListN.{length, get_or, set, replicate}
use lib.Dec.{T, eqb, eqb→eq, eqb_refl}
use Rattle.theory.specs.Answer.{Answer}
use Rattle.suite.specs.declared.test.Test.{Test}
use Rattle.suite.specs.Suite.{Night, no_test, no_counts, raised_at, test_answer, begun_night, test_left, night_step}
use Rattle.suite.specs.Suite.{night_after, Runnable}
use Rattle.suite.specs.Expected.{test_gives?, passing}
use Rattle.suite.proofs.Runs.{kept, answer_small}
use Rattle.suite.proofs.Expected.{alone}

-- two numbers are equal or not, with what the test says
data Same (a b : ℕ) : Bool → Type 0 where
  equal : a ≡ b → Same a b true
  differ : ¬ (a ≡ b) → Same a b false

same : (a b : ℕ) → Same a b (eqb a b)
same a b = go (eqb a b) refl
  where
    go : (t : Bool) → eqb a b ≡ t → Same a b t
    go true e = equal (eqb→eq a b (subst T (sym e) tt))
    go false e = differ (λ q. subst T (ap (λ (z : ℕ). eqb a z) q ∙ e) (eqb_refl a))

module _ {A : Type 0} (d : A) where
  set_here : (l : List A) (i : ℕ) (x : A) → i < length l → get_or (set l i x) i d ≡ x
  set_here [] i x h = absurd (omega (arith, h))
  set_here (y ∷ l) zero x h = refl
  set_here (y ∷ l) (suc i) x h = set_here l i x (omega (arith, h))

  set_there : (l : List A) (i j : ℕ) (x : A) → ¬ (i ≡ j) → get_or (set l i x) j d ≡ get_or l j d
  set_there [] i j x n = refl
  set_there (y ∷ l) zero zero x n = absurd (n refl)
  set_there (y ∷ l) zero (suc j) x n = refl
  set_there (y ∷ l) (suc i) zero x n = refl
  set_there (y ∷ l) (suc i) (suc j) x n = set_there l i j x (λ e. n (ap suc e))

abbrev cell : List (List ℕ) → ℕ → ℕ → ℕ
cell c m k = get_or (get_or c m []) k 0

module _ (c : List (List ℕ)) (a b : ℕ) (ha : a < length c) (hb : b < length (get_or c a [])) where
  abbrev row : List ℕ
  row = set (get_or c a []) b (cell c a b + 1)

  row_here : get_or (raised_at c a b) a [] ≡ row
  unfolding raised_at
  row_here = set_here [] c a row ha

  cell_here : cell (raised_at c a b) a b ≡ suc (cell c a b)
  cell_here =
      let e : cell (raised_at c a b) a b ≡ cell c a b + 1 =
      ap (λ (r : List ℕ). get_or r b 0) row_here ∙ set_here 0 (get_or c a []) b (cell c a b + 1) hb in
      omega (arith, e)

  cell_beside : (k : ℕ) → ¬ (b ≡ k) → cell (raised_at c a b) a k ≡ cell c a k
  cell_beside k n = ap (λ (r : List ℕ). get_or r k 0) row_here ∙ set_there 0 (get_or c a []) b k (cell c a b + 1) n

  cell_elsewhere : (m k : ℕ) → ¬ (a ≡ m) → cell (raised_at c a b) m k ≡ cell c m k
  unfolding raised_at
  cell_elsewhere m k n = ap (λ (r : List ℕ). get_or r k 0) (set_there [] c a m row n)

  -- a cell is raised exactly where mode and number are its own
  raised_cell : (m k : ℕ) →
      cell (raised_at c a b) m k ≡ elim (eqb a m && eqb b k) [ true ↦ suc (cell c m k) | false ↦ cell c m k ]
  raised_cell m k = go (eqb a m) (same a m) (eqb b k) (same b k)
    where
      go : (t : Bool) → Same a m t → (u : Bool) → Same b k u →
          cell (raised_at c a b) m k ≡ elim (t && u) [ true ↦ suc (cell c m k) | false ↦ cell c m k ]
      go true (equal e) true (equal f) =
          subst (λ (z : ℕ). cell (raised_at c a b) z k ≡ suc (cell c z k)) e
          (subst (λ (z : ℕ). cell (raised_at c a b) a z ≡ suc (cell c a z)) f cell_here)
      go true (equal e) false (differ n) = subst (λ (z : ℕ). cell (raised_at c a b) z k ≡ cell c z k) e (cell_beside k n)
      go false (differ n) u v = cell_elsewhere m k n

-- whatever is read of zeros is 0
pub all_zero : (n i : ℕ) → ◌≡◌ {A = ℕ} (get_or (replicate n 0) i 0) 0
all_zero zero i = refl
all_zero (suc n) zero = refl
all_zero (suc n) (suc i) = all_zero n i

no_cell : (j m k : ℕ) → cell (replicate j (replicate 12 0)) m k ≡ 0
no_cell zero m k = refl
no_cell (suc j) zero k = all_zero 12 k
no_cell (suc j) (suc m) k = no_cell j m k

module _ (ws : List ℕ) (ts : List Test) (y w : List ℕ) (n : ℕ) (f : Runnable n (length ws) ts) (m k : ℕ) where
  abbrev night : ℕ → Night
  night i = night_after ws ts (begun_night y w) i

  pub cells_count : (i : ℕ) → i ≤ n → cell (night i).counts m k ≡ passing (test_gives? ws ts (length y) (length w) m k) i
  unfolding night_after night_step test_left passing no_counts
  cells_count zero h = no_cell 3 m k
  cells_count (suc i) h =
      let t : Test = get_or ts i no_test in
      let q = (kept ws ts y w n f i (omega (arith, h))).square in
      let mode = f.modes i (omega (arith, h)) in
      let rows = q.rows in
      let cells = q.cells t.mode mode in
      let small = answer_small ws t (length y) (length w) in
      let e : cell (raised_at (night i).counts t.mode (test_answer ws t (length y) (length w)).number) m k
      ≡ elim (eqb t.mode m && eqb (test_answer ws t (length y) (length w)).number k) [
        | true ↦ suc (cell (night i).counts m k)
        | false ↦ cell (night i).counts m k
      ] =
      raised_cell (night i).counts t.mode (test_answer ws t (length y) (length w)).number
      (omega (arith, mode, rows)) (omega (arith, small, cells)) m k in
      ap (λ (z : Answer). cell (raised_at (night i).counts t.mode z.number) m k) (alone ws ts y w t i) ∙ e
      ∙ ap (λ (z : ℕ). elim (eqb t.mode m && eqb (test_answer ws t (length y) (length w)).number k) [ true ↦ suc z | false ↦ z ])
      (cells_count i (omega (arith, h)))
