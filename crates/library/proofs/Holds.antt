-- What a file holds is a library where all of it is read with 0, and it is what listing and reading give.
-- Assumes nothing.
use Prim.Native.Nat.{ℕ, zero, suc, ◌+◌, ◌*◌, ◌/◌, ◌%◌}
use native.Mathlib.Omega.{arith}
use mathlib.Core.Path.{◌≡◌, refl, sym, ap, ◌∙◌}
use mathlib.Core.Bool.{true}
use mathlib.Core.List.{List}
use lib.ListN.{length}
use Rattle.blocks.specs.Block.{pair_at, block_of}
use Rattle.blocks.specs.Byte.{Bytes}
use Rattle.blocks.proofs.Whole.{bytes_take}
use Rattle.library.specs.Index.{room_of, index_good, Index, placed, found, index_of}
use Rattle.library.specs.File.{Narrow, Sorted, Library, list_of}
use Rattle.library.specs.Read.{words_from, imaged, sought, fetch_answer, words_found, words_by, words_asked}
use Rattle.library.specs.List.{list_by}
use Rattle.library.specs.Contents.{entries_from, contents, listing, words_in_order, words_listed}
use Rattle.library.specs.Told.{fetch_number}
use Rattle.std.specs.Prelude.{Option, Ok}
use Rattle.library.specs.declared.index.Place.{Place}
use Rattle.library.proofs.Reading.{words_length}
use Rattle.library.proofs.Good.{goes, after_entry}
use Rattle.library.proofs.Order.{imaged_image}
use Rattle.library.proofs.Back.{first_found, later_found, read_good, entries_length}

module _ (f : List ℕ) (bytes : Bytes f) where
  words_narrow : (n k i : ℕ) → Narrow (words_from k i n f)
  unfolding words_from
  words_narrow zero k i = tt
  words_narrow (suc n) k i =
      let p = 512 * (k + i / 126) + 4 * (i % 126) in
      let b₀ = bytes p in
      let b₁ = bytes (p + 1) in
      let b₂ = bytes (p + 2) in
      let b₃ = bytes (p + 3) in
      (omega arith, words_narrow n k (i + 1))

  module _ (b : List ℕ) (byte : Bytes b) (total : ℕ) where
    sorted : (c low next p : ℕ) → index_good c low next p b total ≡ true
        → ((id k n : ℕ) → found id c p b ≡ placed k n → imaged (words_from k 0 n f) ≡ true) → Sorted low (entries_from c p b f)
    unfolding entries_from
    sorted zero low next p e h = tt
    sorted (suc c) low next p e h =
        let s = after_entry c low next p b total e in
        let first = pair_at b (p + 2) in
        let n = pair_at b (p + 4) in
        let size = words_length f n first 0 in
        let least = s.0.least in
        let most = s.0.most in
        let low_byte = byte p in
        let high_byte = byte (p + 1) in (
          record {
            rises = s.0.rises;
            short = omega arith;
            least = omega arith;
            most = omega arith;
            small = words_narrow n first 0;
            image = imaged_image (words_from first 0 n f) (h (pair_at b p) first n (first_found b total c p));
          },
          sorted c (pair_at b p + 1) (next + room_of n) (p + 8) s.1
              (λ id k m g. h id k m (later_found b total c low next p id k m e g)),
        )

-- ---- listing and reading
module _ (f b : List ℕ) where
  listing_is : (c p : ℕ) → listing c p b ≡ list_of (entries_from c p b f)
  unfolding listing list_of entries_from
  listing_is zero p = refl
  listing_is (suc c) p =
      let n = pair_at b (p + 4) in
      let size = words_length f n (pair_at b (p + 2)) 0 in
      let more = listing_is c (p + 8) in
      rw more (rw size)

  words_are : (total c low next p : ℕ) → index_good c low next p b total ≡ true
      → ((id k n : ℕ) → found id c p b ≡ placed k n → words_asked f id ≡ words_from k 0 n f)
      → words_listed (list_of (entries_from c p b f)) f ≡ words_in_order (entries_from c p b f)
  unfolding entries_from list_of words_listed words_in_order
  words_are total zero low next p e h = refl
  words_are total (suc c) low next p e h =
      let s = after_entry c low next p b total e in
      let first = pair_at b (p + 2) in
      let n = pair_at b (p + 4) in
      let here : words_asked f (pair_at b p) ≡ words_from first 0 n f = h (pair_at b p) first n (first_found b total c p) in
      let more = words_are total c (pair_at b p + 1) (next + room_of n) (p + 8) s.1
      (λ id k m g. h id k m (later_found b total c low next p id k m e g)) in
      rw here (rw more)

-- ---- the whole file
module _ (f : List ℕ) (count : ℕ) (good : index_of f ≡ Ok count) where
  asked_found : (id k n : ℕ) → sought id count f ≡ placed k n → words_asked f id ≡ words_from k 0 n f
  unfolding words_asked words_by words_found
  asked_found id k n g = ap (λ (x : Index). words_by x id f) good ∙ ap (λ (x : Option Place). words_found x f) g

  pub list_contents : list_by (index_of f) f ≡ list_of (contents count f)
  unfolding list_by
  list_contents = ap (λ (x : Index). list_by x f) good ∙ listing_is f (block_of 0 f) count 2

  pub words_contents : words_listed (list_of (contents count f)) f ≡ words_in_order (contents count f)
  words_contents = words_are f (block_of 0 f) (length f / 512) count 0 1 2 (goes f count (sym good)).entries asked_found

  pub contents_library : Bytes f → ((id k n : ℕ) → sought id count f ≡ placed k n → fetch_number (fetch_answer f id n) ≡ 0)
      → Library (contents count f)
  contents_library bytes reads =
      let o = goes f count (sym good) in
      let b = block_of 0 f in
      let few = o.few in
      let n = entries_length count 2 b f in
      record {
        few = omega arith;
        sorted = sorted f bytes b (bytes_take 512 f bytes) (length f / 512) count 0 1 2 o.entries
            (λ id k m g. (read_good f count good id k m m g (reads id k m g)).1);
      }
