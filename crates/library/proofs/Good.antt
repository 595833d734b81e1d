-- What a good index is, and where the descriptions stand that it tells of.
-- Assumes nothing.
use Prim.Native.Nat.{ℕ, zero, suc, ◌+◌, ◌/◌, ◌%◌, ◌≤◌}
use native.Mathlib.Omega.{arith}
use mathlib.Core.Path.{◌≡◌, refl, ap, ◌∙◌}
use mathlib.Core.Bool.{Bool, true, false}
use mathlib.Core.List.{List}
use lib.ListN.{length}
use lib.Dec.{eqb, leb}
use borrow.Author.Tests.{eqb-true, eqb-false, leb-true}
use Rattle.blocks.specs.Block.{whichever, pair_at, intact, block_of}
use Rattle.blocks.proofs.Whole.{whichever_true}
use Rattle.library.specs.Index.{room_of, used_by, entry_good, index_good, Index, placed, found, start_of, index_of}
use Rattle.library.specs.Read.{StandsWithin}
use Rattle.library.proofs.Indices.{placed_is}
use Rattle.std.specs.Prelude.{Ok, Err}
use Rattle.library.specs.declared.index.IndexError.TheVariants.{BadLength, BadStart, BadIndex}

whichever_good : {n : ℕ} (t : Bool) (x y : Index) → (Ok n ≡ y → ⊥) → Ok n ≡ whichever t x y → (t ≡ true) × (Ok n ≡ x)
whichever_good true x y h e = (refl, e)
whichever_good false x y h e = absurd (h e)

whichever_length : {n : ℕ} (t : Bool) (x : Index) → Ok n ≡ whichever t (Err BadLength) x → (t ≡ false) × (Ok n ≡ x)
whichever_length true x e = absurd (let z : ◌≡◌ {A = ℕ} 0 1 = cc in omega arith)
whichever_length false x e = (refl, e)

-- the entry at byte p
pub record Sound (low next p : ℕ) (b : List ℕ) : Type 0 where
  pub rises : low ≤ pair_at b p
  pub follows : pair_at b (p + 2) ≡ next
  pub least : 3 ≤ pair_at b (p + 4)
  pub most : pair_at b (p + 4) ≤ 1024
  pub last : pair_at b (p + 6) ≡ 0

pub sound : (low next p : ℕ) (b : List ℕ) → entry_good low next p b ≡ true → Sound low next p b
unfolding entry_good
sound low next p b e =
    let a = whichever_true _ _ e in
    let f = whichever_true _ _ a.1 in
    let g = whichever_true _ _ f.1 in
    let h = whichever_true _ _ g.1 in
    record { rises = leb-true _ _ a.0; follows = eqb-true _ _ f.0; least = leb-true _ _ g.0; most = leb-true _ _ h.0; last = eqb-true _ _ h.1 }

-- a good index
pub record Goes (f : List ℕ) (count : ℕ) : Type 0 where
  pub even : length f % 512 ≡ 0
  pub some : length f ≡ 0 → ⊥
  pub few : count ≤ 60
  pub counts : count ≡ pair_at (block_of 0 f) 0
  pub whole : intact (used_by count) 0 (block_of 0 f) ≡ true
  pub entries : index_good count 0 1 2 (block_of 0 f) (length f / 512) ≡ true

same : {m n : ℕ} → ◌≡◌ {A = Index} (Ok m) (Ok n) → m ≡ n
same e = cc

pub goes : (f : List ℕ) (count : ℕ) → Ok count ≡ index_of f → Goes f count
unfolding index_of start_of
goes f count e =
    let b = block_of 0 f in
    let p = whichever_good (eqb (length f % 512) 0) _ (Err BadLength) (λ h. let z : ◌≡◌ {A = ℕ} 0 1 = cc in omega arith) e in
    let q = whichever_length (eqb (length f) 0) _ p.1 in
    let r = whichever_good (intact (used_by (pair_at b 0)) 0 b) _ (Err BadStart) (λ h. let z : ◌≡◌ {A = ℕ} 0 1 = cc in omega arith) q.1 in
    let s = whichever_good (leb (pair_at b 0) 60) _ (Err BadIndex) (λ h. let z : ◌≡◌ {A = ℕ} 0 1 = cc in omega arith) r.1 in
    let t = whichever_good (index_good (pair_at b 0) 0 1 2 b (length f / 512)) _ (Err BadIndex) (λ h. let z : ◌≡◌ {A = ℕ} 0 1 = cc in omega arith) s.1 in
    let n : count ≡ pair_at b 0 = same t.1 in
    record {
      even = eqb-true _ _ p.0;
      some = eqb-false _ _ q.0;
      few = let h = leb-true (pair_at b 0) 60 s.0 in omega arith;
      counts = n;
      whole = ap (λ (k : ℕ). intact (used_by k) 0 b) n ∙ r.0;
      entries = ap (λ (k : ℕ). index_good k 0 1 2 b (length f / 512)) n ∙ t.0;
    }

-- block 0 is there, and counts few entries
pub record Opens (f : List ℕ) (count : ℕ) : Type 0 where
  pub long : 512 ≤ length f
  pub few : count ≤ 60

pub opens : (f : List ℕ) (count : ℕ) → Ok count ≡ index_of f → Opens f count
opens f count e =
    let o = goes f count e in
    let even = o.even in
    let some = o.some in
    record { long = omega arith; few = o.few }

-- the first entry, and those after it
pub after_entry : (c low next p : ℕ) (b : List ℕ) (total : ℕ) → index_good (suc c) low next p b total ≡ true
    → Sound low next p b × (index_good c (pair_at b p + 1) (next + room_of (pair_at b (p + 4))) (p + 8) b total ≡ true)
unfolding index_good
after_entry c low next p b total e =
    let q = whichever_true (entry_good low next p b) (index_good c (pair_at b p + 1) (next + room_of (pair_at b (p + 4))) (p + 8) b total) e in
    (sound low next p b q.0, q.1)

-- each entry's description stands within the file
module _ (b : List ℕ) (total : ℕ) where
  pub within : (c low next p : ℕ) → index_good c low next p b total ≡ true → next ≤ total
  unfolding index_good
  within zero low next p e = let h = eqb-true next total e in omega arith
  within (suc c) low next p e =
      let h = within c (pair_at b p + 1) (next + room_of (pair_at b (p + 4))) (p + 8) (after_entry c low next p b total e).1 in
      omega arith

module _ (id : ℕ) (b : List ℕ) (total : ℕ) where
  pub stands : (c low next p k n : ℕ) → index_good c low next p b total ≡ true → placed k n ≡ found id c p b → (n ≤ 1024) × (k + room_of n ≤ total)
  unfolding found
  stands zero low next p k n e g = absurd (let z : ◌≡◌ {A = ℕ} 0 1 = cc in omega arith)
  stands (suc c) low next p k n e g =
      let a = after_entry c low next p b total e in
      go (eqb (pair_at b p) id) g a.0 (within b total c (pair_at b p + 1) (next + room_of (pair_at b (p + 4))) (p + 8) a.1) (stands c (pair_at b p + 1) (next + room_of (pair_at b (p + 4))) (p + 8) k n a.1)
    where
      go : (t : Bool) → placed k n ≡ whichever t (placed (pair_at b (p + 2)) (pair_at b (p + 4))) (found id c (p + 8) b) → Sound low next p b
          → next + room_of (pair_at b (p + 4)) ≤ total
          → (placed k n ≡ found id c (p + 8) b → (n ≤ 1024) × (k + room_of n ≤ total)) → (n ≤ 1024) × (k + room_of n ≤ total)
      go true g s w rest =
          let same = placed_is g in
          let x = same.0 in
          let y = same.1 in
          let z = s.follows in
          (rw y s.most, rw y (rw x (rw z w)))
      go false g s w rest = rest g

pub found_placed : (f : List ℕ) (id count k n : ℕ) → Ok count ≡ index_of f → placed k n ≡ found id count 2 (block_of 0 f) → StandsWithin k n f
found_placed f id count k n e g =
    let o = goes f count e in
    let s = stands id (block_of 0 f) (length f / 512) count 0 1 2 k n o.entries g in
    record { few = s.0; inside = let h = s.1 in omega arith }
