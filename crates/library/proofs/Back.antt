-- A file all of whose entries are read with 0 is byte for byte what the writer makes of it.
-- Assumes nothing.
use Prim.Native.Nat.{ℕ, zero, suc, ◌+◌, ◌*◌, ◌/◌, ◌%◌, ◌≤◌}
use native.Mathlib.Omega.{arith}
use mathlib.Core.Path.{◌≡◌, refl, sym, ap, ◌∙◌}
use mathlib.Core.Bool.{Bool, true, false}
use mathlib.Core.List.{List, ◌++◌}
use lib.ListN.{length, get_or, take, drop, length-drop, take-append-drop, drop_of_length-le}
use lib.Seq.{take-add, drop-drop, get_or-drop, length-take-le}
use lib.Dec.{eqb}
use borrow.Author.Tests.{eqb-true, eq-eqb, ne_eqb}
use Rattle.blocks.specs.Block.{whichever, pair, pair_at, intact, block, filled, block_of}
use Rattle.blocks.specs.Byte.{Bytes}
use Rattle.blocks.proofs.Whole.{bytes_take, two, pair_of, intact_block}
use Rattle.library.specs.Index.{room_of, used_by, index_good, Index, placed, found, index_of}
use Rattle.library.specs.File.{bodies, index_bytes, file, description_blocks}
use Rattle.library.specs.Read.{Fetched, words_from, whole_blocks, imaged, fetch_answer_at, fetch_answer_found, fetch_answer_by, fetch_answer, sought}
use Rattle.library.specs.Told.{fetch_number}
use Rattle.library.specs.Contents.{entries_from, contents}
use Rattle.std.specs.Prelude.{Option, Ok, Err}
use Rattle.library.specs.declared.index.Place.{Place}
use Rattle.library.specs.declared.read.ReadError.TheVariants as error
use Rattle.library.proofs.Indices.{used_within}
use Rattle.library.proofs.Reading.{words_length}
use Rattle.library.proofs.Good.{Sound, goes, after_entry}
use Rattle.library.proofs.Chunks.{blocks_written}

-- ---- the index
module _ (b : List ℕ) (bytes : Bytes b) where
  take_pair : (p m : ℕ) → p + 2 ≤ length b → take (2 + m) (drop p b) ≡ pair (pair_at b p) ++ take m (drop (p + 2) b)
  take_pair p m h =
      let d = length-drop p b in
      let z : p + 0 ≡ p = omega arith in
      let here : take 2 (drop p b) ≡ pair (pair_at b p) =
      two (drop p b) (omega arith) ∙ rw (get_or-drop p b 0 0) (rw (get_or-drop p b 1 0) (rw z (sym (pair_of (get_or b p 0) (get_or b (p + 1) 0) (pair_at b p) (bytes p) (bytes (p + 1)) refl)))) in
      take-add 2 m (drop p b) ∙ rw here (rw (drop-drop 2 p b))

  take_entry : (p m : ℕ) → p + 8 ≤ length b
      → take (8 + m) (drop p b) ≡ (pair (pair_at b p) ++ (pair (pair_at b (p + 2)) ++ (pair (pair_at b (p + 4)) ++ pair (pair_at b (p + 6))))) ++ take m (drop (p + 8) b)
  take_entry p m h =
      let e₁ : (p + 2) + 2 ≡ p + 4 = omega arith in
      let e₂ : (p + 4) + 2 ≡ p + 6 = omega arith in
      let e₃ : (p + 6) + 2 ≡ p + 8 = omega arith in
      let n₀ : 8 + m ≡ 2 + (6 + m) = omega arith in
      let n₁ : 6 + m ≡ 2 + (4 + m) = omega arith in
      let n₂ : 4 + m ≡ 2 + (2 + m) = omega arith in
      let t₃ = take_pair (p + 6) m (omega arith) in
      let t₂ = take_pair (p + 4) (2 + m) (omega arith) in
      let t₁ = take_pair (p + 2) (4 + m) (omega arith) in
      let t₀ = take_pair p (6 + m) (omega arith) in
      let s₃ : take (2 + m) (drop (p + 6) b) ≡ pair (pair_at b (p + 6)) ++ take m (drop (p + 8) b) = t₃ ∙ ap (λ (n : ℕ). pair (pair_at b (p + 6)) ++ take m (drop n b)) e₃ in
      let s₂ : take (4 + m) (drop (p + 4) b) ≡ pair (pair_at b (p + 4)) ++ (pair (pair_at b (p + 6)) ++ take m (drop (p + 8) b)) =
      ap (λ (n : ℕ). take n (drop (p + 4) b)) n₂ ∙ t₂ ∙ ap (λ (n : ℕ). pair (pair_at b (p + 4)) ++ take (2 + m) (drop n b)) e₂ ∙ ap (λ (l : List ℕ). pair (pair_at b (p + 4)) ++ l) s₃ in
      let s₁ : take (6 + m) (drop (p + 2) b) ≡ pair (pair_at b (p + 2)) ++ (pair (pair_at b (p + 4)) ++ (pair (pair_at b (p + 6)) ++ take m (drop (p + 8) b))) =
      ap (λ (n : ℕ). take n (drop (p + 2) b)) n₁ ∙ t₁ ∙ ap (λ (n : ℕ). pair (pair_at b (p + 2)) ++ take (4 + m) (drop n b)) e₁ ∙ ap (λ (l : List ℕ). pair (pair_at b (p + 2)) ++ l) s₂ in
      ap (λ (n : ℕ). take n (drop p b)) n₀ ∙ t₀ ∙ ap (λ (l : List ℕ). pair (pair_at b p) ++ l) s₁

  index_written : (f : List ℕ) (total c low next p : ℕ) → index_good c low next p b total ≡ true → p + 8 * c ≤ length b → take (8 * c) (drop p b) ≡ index_bytes next (entries_from c p b f)
  unfolding index_bytes entries_from
  index_written f total zero low next p e h = refl
  index_written f total (suc c) low next p e h =
      let a = after_entry c low next p b total e in
      let s = a.0 in
      let w = pair_at b (p + 4) in
      let n : 8 * suc c ≡ 8 + 8 * c = omega arith in
      let more = index_written f total c (pair_at b p + 1) (next + room_of w) (p + 8) a.1 (omega arith) in
      let size = words_length f w (pair_at b (p + 2)) 0 in
      let follows = s.follows in
      let last = s.last in
      ap (λ (m : ℕ). take m (drop p b)) n ∙ take_entry p (8 * c) (omega arith) ∙ rw more (rw size (rw follows (rw last)))

-- ---- the descriptions
-- none of their blocks is damaged
abbrev All : ℕ → ℕ → List ℕ → List ℕ → Type 0
All zero p b f = Unit {0}
All (suc c) p b f = (whole_blocks (room_of (pair_at b (p + 4))) (pair_at b (p + 2)) (pair_at b (p + 4)) f ≡ true) × All c (p + 8) b f

module _ (f : List ℕ) (bytes : Bytes f) (b : List ℕ) (even : length f % 512 ≡ 0) where
  bodies_written : (c low next p : ℕ) → index_good c low next p b (length f / 512) ≡ true → All c p b f → drop (512 * next) f ≡ bodies next (entries_from c p b f)
  unfolding index_good bodies entries_from
  bodies_written zero low next p e a = let h = eqb-true next (length f / 512) e in drop_of_length-le f {i = 512 * next} (omega arith)
  bodies_written (suc c) low next p e a =
      let s = after_entry c low next p b (length f / 512) e in
      let w = pair_at b (p + 4) in
      let r = room_of w in
      let size = words_length f w (pair_at b (p + 2)) 0 in
      let follows = s.0.follows in
      let d : 512 * next + 512 * r ≡ 512 * (next + r) = omega arith in
      let here : take (512 * r) (drop (512 * next) f) ≡ description_blocks r next (words_from next 0 w f) = blocks_written f bytes r next w refl (rw follows at a.0) in
      let more = bodies_written c (pair_at b p + 1) (next + r) (p + 8) s.1 a.1 in
      sym (take-append-drop (512 * r) (drop (512 * next) f)) ∙ ap (λ (l : List ℕ). l ++ drop (512 * r) (drop (512 * next) f)) here
      ∙ ap (λ (l : List ℕ). description_blocks r next (words_from next 0 w f) ++ l) (drop-drop (512 * r) (512 * next) f ∙ ap (λ (n : ℕ). drop n f) d ∙ more) ∙ rw size (rw follows)

-- ---- each entry is found by its identifier, since identifiers rise
module _ (b : List ℕ) (total : ℕ) where
  found_low : (id c low next p k n : ℕ) → index_good c low next p b total ≡ true → found id c p b ≡ placed k n → low ≤ id
  unfolding found
  found_low id zero low next p k n e g = absurd (let z : ◌≡◌ {A = ℕ} 0 1 = cc in omega arith)
  found_low id (suc c) low next p k n e g =
      let s = after_entry c low next p b total e in
      go (eqb (pair_at b p) id) refl g s.0 (found_low id c (pair_at b p + 1) (next + room_of (pair_at b (p + 4))) (p + 8) k n s.1)
    where
      go : (t : Bool) → eqb (pair_at b p) id ≡ t → whichever t (placed (pair_at b (p + 2)) (pair_at b (p + 4))) (found id c (p + 8) b) ≡ placed k n → Sound low next p b
          → (found id c (p + 8) b ≡ placed k n → pair_at b p + 1 ≤ id) → low ≤ id
      go true q g s rest = let h = eqb-true (pair_at b p) id q in let r = s.rises in omega arith
      go false q g s rest = let h = rest g in let r = s.rises in omega arith

  pub first_found : (c p : ℕ) → found (pair_at b p) (suc c) p b ≡ placed (pair_at b (p + 2)) (pair_at b (p + 4))
  unfolding found
  first_found c p = simp (eq-eqb (pair_at b p) (pair_at b p) refl)

  pub later_found : (c low next p id k n : ℕ) → index_good (suc c) low next p b total ≡ true → found id c (p + 8) b ≡ placed k n
      → found id (suc c) p b ≡ placed k n
  unfolding found
  later_found c low next p id k n e g =
      let s = after_entry c low next p b total e in
      let low' = found_low id c (pair_at b p + 1) (next + room_of (pair_at b (p + 4))) (p + 8) k n s.1 g in
      let other = ne_eqb (pair_at b p) id (λ z. omega arith) in
      rw other g

  all_whole : (f : List ℕ) (c low next p : ℕ) → index_good c low next p b total ≡ true
      → ((id k n : ℕ) → found id c p b ≡ placed k n → whole_blocks (room_of n) k n f ≡ true) → All c p b f
  all_whole f zero low next p e h = tt
  all_whole f (suc c) low next p e h =
      let s = after_entry c low next p b total e in (
        h (pair_at b p) (pair_at b (p + 2)) (pair_at b (p + 4)) (first_found c p),
        all_whole f c (pair_at b p + 1) (next + room_of (pair_at b (p + 4))) (p + 8) s.1
            (λ id k n g. h id k n (later_found c low next p id k n e g)),
      )

-- ---- the whole file
both_hold : (t u : Bool) (x : Fetched) → fetch_number (whichever t (whichever u x (Err error.Malformed)) (Err error.Damaged)) ≡ 0
    → (t ≡ true) × (u ≡ true)
both_hold true true x e = (refl, refl)
both_hold true false x e = absurd (omega arith)
both_hold false u x e = absurd (omega arith)

pub entries_length : (c p : ℕ) (b f : List ℕ) → length (entries_from c p b f) ≡ c
unfolding entries_from
entries_length zero p b f = refl
entries_length (suc c) p b f = ap suc (entries_length c (p + 8) b f)

module _ (f : List ℕ) (count : ℕ) (good : index_of f ≡ Ok count) where
  -- a description that is read with 0
  pub read_good : (id k n room : ℕ) → sought id count f ≡ placed k n → fetch_number (fetch_answer f id room) ≡ 0
      → (whole_blocks (room_of n) k n f ≡ true) × (imaged (words_from k 0 n f) ≡ true)
  unfolding fetch_answer fetch_answer_by fetch_answer_found fetch_answer_at
  read_good id k n room g e =
      both_hold (whole_blocks (room_of n) k n f) (imaged (words_from k 0 n f)) _
      (ap (λ (x : Option Place). fetch_number (fetch_answer_found x f room)) (sym g)
      ∙ ap (λ (x : Index). fetch_number (fetch_answer_by x id f room)) (sym good) ∙ e)

  -- "Writer and reader both, each undoing the other": a file all of whose entries are read with 0 is what is written of its contents
  pub written_read : Bytes f → ((id k n : ℕ) → sought id count f ≡ placed k n → fetch_number (fetch_answer f id n) ≡ 0) → file (contents count f) ≡ f
  unfolding file
  written_read bytes reads =
      let o = goes f count (sym good) in
      let b = block_of 0 f in
      let byte : Bytes b = bytes_take 512 f bytes in
      let few = o.few in
      let even = o.even in
      let some = o.some in
      let size : length b ≡ 512 = length-take-le 512 f (omega arith) in
      let all = all_whole b (length f / 512) f count 0 1 2 o.entries (λ id k n g. (read_good id k n n g (reads id k n g)).0) in
      let used : used_by count ≡ 2 + 8 * count = sym (used_within count few) in
      let head : take (2 + 8 * count) b ≡ pair count ++ index_bytes 1 (contents count f) =
      take_pair b byte 0 (8 * count) (omega arith) ∙ ap (λ (n : ℕ). pair n ++ take (8 * count) (drop 2 b)) (sym o.counts)
      ∙ ap (λ (l : List ℕ). pair count ++ l) (index_written b byte f (length f / 512) count 0 1 2 o.entries (omega arith)) in
      let start : b ≡ block (filled (pair count ++ index_bytes 1 (contents count f))) 0 =
      intact_block (2 + 8 * count) 0 b (omega arith) byte (ap (λ (n : ℕ). intact n 0 b) (sym used) ∙ o.whole) ∙ ap (λ (l : List ℕ). block (filled l) 0) head in
      let rest : drop 512 f ≡ bodies 1 (contents count f) = bodies_written f bytes b even count 0 1 2 o.entries all in
      let n = entries_length count 2 b f in
      rw n (ap (λ (l : List ℕ). l ++ bodies 1 (contents count f)) (sym start) ∙ ap (λ (l : List ℕ). b ++ l) (sym rest) ∙ take-append-drop 512 f)
