-- Laws of checking a block, in the form in which the functions' returns ask them.
-- Assumes nothing.
use Prim.Native.Nat.{ℕ, zero, suc, ◌+◌, ◌*◌, ◌-◌, ◌≤◌, ◌<◌}
use native.Mathlib.Numerals.{sub-one}
use native.Mathlib.Nat.{not-suc-le-zero}
use mathlib.Core.Path.{◌≡◌, refl}
use mathlib.Core.Bool.{true, false}
use mathlib.Core.List.{List}
use lib.Dec.{leb, ltb}
use borrow.Author.Tests.{leb-true, ltb-true}
use Rattle.blocks.specs.Block.{pair_at}
use Rattle.blocks.proofs.Whole.{whichever_true}
use Rattle.library.specs.Index.{room_of, first_part}
use Rattle.library.specs.Check.{held_by, block_among, holder_of}
use Rattle.std.specs.Prelude.{None}

module _ (first n k : ℕ) where
  pub among_means : block_among first n k ≡ true → (first ≤ k) × (k - first < room_of n)
  unfolding block_among
  among_means e =
      let p = whichever_true (leb first k) (ltb (k - first) (room_of n)) e in
      (leb-true first k p.0, ltb-true (k - first) (room_of n) p.1)

module _ (k : ℕ) where
  pub holder_here : (c p : ℕ) (b : List ℕ) → 0 < c → block_among (pair_at b (p + 2)) (pair_at b (p + 4)) k ≡ true
      → held_by (pair_at b p) (4 * first_part (pair_at b (p + 4) - 126 * (k - pair_at b (p + 2)))) ≡ holder_of k c p b
  unfolding holder_of
  holder_here zero p b h e = absurd (not-suc-le-zero h)
  holder_here (suc c) p b h e = rw e

  pub holder_step : (c p : ℕ) (b : List ℕ) → 0 < c → block_among (pair_at b (p + 2)) (pair_at b (p + 4)) k ≡ false
      → holder_of k c p b ≡ holder_of k (c - 1) (p + 8) b
  unfolding holder_of
  holder_step zero p b h e = absurd (not-suc-le-zero h)
  holder_step (suc c) p b h e = rw (e, sub-one)

  pub holder_none : (c p : ℕ) (b : List ℕ) → c ≤ 0 → None ≡ holder_of k c p b
  unfolding holder_of
  holder_none zero p b h = refl
  holder_none (suc c) p b h = absurd (not-suc-le-zero h)
