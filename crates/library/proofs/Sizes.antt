-- How long a library's file is.
-- Assumes nothing.
use Prim.Native.Nat.{ℕ, ◌+◌, ◌*◌, ◌≤◌}
use native.Mathlib.Omega.{arith}
use mathlib.Core.Path.{◌≡◌, refl, ◌∙◌}
use mathlib.Core.List.{List, [], ◌∷◌, ◌++◌}
use lib.ListN.{length, length-append}
use Rattle.blocks.specs.Block.{pair, block, filled}
use Rattle.blocks.proofs.Whole.{block_length}
use Rattle.library.specs.Index.{entry_limit, room_of}
use Rattle.library.specs.File.{LibraryEntry, Sorted, bodies, index_bytes, file, description_blocks}
use Rattle.library.proofs.Chunks.{description_length}

-- the blocks of the descriptions
unfoldable pub rooms : List LibraryEntry → ℕ
rooms [] = 0
rooms (e ∷ l) = room_of (length e.1) + rooms l

pub rooms_few : (low : ℕ) (l : List LibraryEntry) → Sorted low l → rooms l ≤ 9 * length l
unfolding rooms
rooms_few low [] s = omega arith
rooms_few low (e ∷ l) s = let h = rooms_few (e.0 + 1) l s.1 in let m = s.0.most in omega arith

pub bodies_length : (k : ℕ) (l : List LibraryEntry) → length (bodies k l) ≡ 512 * rooms l
unfolding bodies rooms
bodies_length k [] = refl
bodies_length k (e ∷ l) =
    let r = room_of (length e.1) in
    let a = description_length r k e.1 in
    let b = bodies_length (k + r) l in
    length-append (description_blocks r k e.1) (bodies (k + r) l) ∙ (omega arith)

pub index_length : (k : ℕ) (l : List LibraryEntry) → length (index_bytes k l) ≡ 8 * length l
unfolding index_bytes
index_length k [] = refl
index_length k (e ∷ l) = let h = index_length (k + room_of (length e.1)) l in omega arith

module _ (l : List LibraryEntry) (few : length l ≤ entry_limit) where
  pub start_size : length (block (filled (pair (length l) ++ index_bytes 1 l)) 0) ≡ 512
  start_size = block_length (pair (length l) ++ index_bytes 1 l) 0 (let h = index_length 1 l in omega arith)

  pub file_size : length (file l) ≡ 512 * (1 + rooms l)
  unfolding file
  file_size =
      length-append (block (filled (pair (length l) ++ index_bytes 1 l)) 0) (bodies 1 l)
      ∙ (let a = start_size in let b = bodies_length 1 l in omega arith)
