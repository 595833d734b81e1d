-- Laws of the index, in the form in which the functions' returns ask them.
-- Assumes nothing.
use Prim.Native.Nat.{ℕ, zero, suc, ◌+◌, ◌*◌, ◌-◌, ◌/◌, ◌%◌, ◌≤◌, ◌<◌}
use native.Mathlib.Numerals.{sub-one}
use native.Mathlib.Nat.{not-suc-le-zero}
use mathlib.Core.Path.{◌≡◌, refl, ap}
use native.Mathlib.Omega.{arith}
use Rattle.library.specs.declared.index.Place.{Place}
use mathlib.Core.Bool.{true, false}
use mathlib.Core.List.{List}
use lib.ListN.{length}
use lib.Dec.{eqb}
use borrow.Author.Tests.{eq-eqb, ne_eqb, le-leb, lt-leb}
use Rattle.blocks.specs.Block.{pair_at, intact, block_of}
use Rattle.library.specs.Index.{room_of, used_by, entry_good, index_good, found, placed, start_of, index_of}
use Rattle.std.specs.Prelude.{None, Ok, Err}
use Rattle.library.specs.declared.index.IndexError.TheVariants.{BadLength, BadStart, BadIndex}

pub used_within : (n : ℕ) → n ≤ 60 → 2 + 8 * n ≡ used_by n
unfolding used_by
used_within n h = simp (le-leb _ _ h)

pub entry_last : (low next p : ℕ) (b : List ℕ) → low ≤ pair_at b p → pair_at b (p + 2) ≡ next → 3 ≤ pair_at b (p + 4) → pair_at b (p + 4) ≤ 1024
    → eqb (pair_at b (p + 6)) 0 ≡ entry_good low next p b
unfolding entry_good
entry_last low next p b rises follows h k = simp (le-leb _ _ rises, eq-eqb _ _ follows, le-leb _ _ h, le-leb _ _ k)

pub index_stop : (c low next p : ℕ) (b : List ℕ) (total : ℕ) → 0 < c → entry_good low next p b ≡ false → index_good c low next p b total ≡ false
unfolding index_good
index_stop zero low next p b total h e = absurd (not-suc-le-zero h)
index_stop (suc c) low next p b total h e = rw e

pub index_step : (c low next p : ℕ) (b : List ℕ) (total : ℕ) → 0 < c → entry_good low next p b ≡ true → index_good c low next p b total ≡ index_good (c - 1) (pair_at b p + 1) (next + room_of (pair_at b (p + 4))) (p + 8) b total
unfolding index_good
index_step zero low next p b total h e = absurd (not-suc-le-zero h)
index_step (suc c) low next p b total h e = rw (e, sub-one)

pub index_done : (c low next p : ℕ) (b : List ℕ) (total : ℕ) → c ≤ 0 → index_good c low next p b total ≡ eqb next total
unfolding index_good
index_done zero low next p b total h = refl
index_done (suc c) low next p b total h = absurd (not-suc-le-zero h)

pub placed_is : {k n k' n' : ℕ} → placed k n ≡ placed k' n' → (k ≡ k') × (n ≡ n')
placed_is {k} {n} {k'} {n'} e =
    let same : ◌≡◌ {A = Place} (record { first = k; words = n }) (record { first = k'; words = n' }) = cc in
    (ap (λ (p : Place). p.first) same, ap (λ (p : Place). p.words) same)

-- what is left to do from the entry after entry i
pub next_entry : {A : Type 0} (left : ℕ → ℕ → A) (count i : ℕ)
    → left (count - i - 1) ((2 + 8 * i) + 8) ≡ left (count - (i + 1)) (2 + 8 * (i + 1))
next_entry left count i =
    let fewer : count - i - 1 ≡ count - (i + 1) = omega arith in
    let after : (2 + 8 * i) + 8 ≡ 2 + 8 * (i + 1) = omega arith in
    rw fewer (rw after)

module _ (id : ℕ) where
  pub found_here : (c p : ℕ) (b : List ℕ) → 0 < c → pair_at b p ≡ id → placed (pair_at b (p + 2)) (pair_at b (p + 4)) ≡ found id c p b
  unfolding found
  found_here zero p b h e = absurd (not-suc-le-zero h)
  found_here (suc c) p b h e = simp (eq-eqb _ _ e)

  pub found_step : (c p : ℕ) (b : List ℕ) → 0 < c → (pair_at b p ≡ id → ⊥) → found id c p b ≡ found id (c - 1) (p + 8) b
  unfolding found
  found_step zero p b h e = absurd (not-suc-le-zero h)
  found_step (suc c) p b h e = simp (ne_eqb _ _ e) (rw sub-one)

  pub found_none : (c p : ℕ) (b : List ℕ) → c ≤ 0 → None ≡ found id c p b
  unfolding found
  found_none zero p b h = refl
  found_none (suc c) p b h = absurd (not-suc-le-zero h)

module _ (b : List ℕ) (total : ℕ) where
  pub start_bad : intact (used_by (pair_at b 0)) 0 b ≡ false → Err BadStart ≡ start_of b total
  unfolding start_of
  start_bad e = rw e

  pub start_over : intact (used_by (pair_at b 0)) 0 b ≡ true → 60 < pair_at b 0 → Err BadIndex ≡ start_of b total
  unfolding start_of
  start_over e h = rw e (simp (lt-leb _ _ h))

  pub start_broken : intact (used_by (pair_at b 0)) 0 b ≡ true → pair_at b 0 ≤ 60 → index_good (pair_at b 0) 0 1 2 b total ≡ false → Err BadIndex ≡ start_of b total
  unfolding start_of
  start_broken e h g = rw e (rw (le-leb _ _ h) (rw g))

  pub start_good : intact (used_by (pair_at b 0)) 0 b ≡ true → pair_at b 0 ≤ 60 → index_good (pair_at b 0) 0 1 2 b total ≡ true → Ok (pair_at b 0) ≡ start_of b total
  unfolding start_of
  start_good e h g = rw e (rw (le-leb _ _ h) (rw g))

module _ (f : List ℕ) where
  pub index_odd : (length f % 512 ≡ 0 → ⊥) → Err BadLength ≡ index_of f
  unfolding index_of
  index_odd h = simp (ne_eqb _ _ h)

  pub index_empty : length f % 512 ≡ 0 → length f ≡ 0 → Err BadLength ≡ index_of f
  unfolding index_of
  index_empty h e = simp (eq-eqb _ _ h, eq-eqb _ _ e)

  pub index_start : length f % 512 ≡ 0 → (length f ≡ 0 → ⊥) → start_of (block_of 0 f) (length f / 512) ≡ index_of f
  unfolding index_of
  index_start h e = simp (eq-eqb _ _ h, ne_eqb _ _ e)
