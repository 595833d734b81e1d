-- Laws of the writer's answers, and the file of what is asked.
-- Assumes nothing.
use Prim.Native.Nat.{ℕ, ◌+◌, ◌*◌, ◌/◌, ◌≤◌, ◌<◌}
use native.Mathlib.Omega.{arith}
use mathlib.Core.Path.{◌≡◌, refl, ap, ◌∙◌}
use mathlib.Core.Bool.{true, false}
use mathlib.Core.List.{List, [], ◌∷◌, ◌++◌}
use lib.ListN.{length, take, drop}
use lib.Seq.{length-take-le}
use lib.Dec.{leb}
use borrow.Author.Tests.{leb-true, le-leb, lt-leb}
use Rattle.blocks.specs.Block.{whichever, pair, block, filled}
use Rattle.blocks.proofs.Whole.{whichever_true}
use Rattle.library.specs.Index.{entry_limit, room_of}
use Rattle.library.specs.File.{index_bytes, bodies, file}
use Rattle.library.specs.Read.{imaged}
use Rattle.library.proofs.Sizes.{rooms, file_size}
use Rattle.library_writing.specs.Write.{split, listable, sound, need, write_answer, WritesLibrary, InPairs, blocks_asked, index_asked}
use Rattle.std.specs.Prelude.{Ok, Err}
use Rattle.library_writing.specs.declared.write.WriteError.TheVariants.{NoRoom, Malformed, BadEntries}

-- ---- what is asked, and its entries
-- the words of the first entry are there, and so are the others'
pub sound-after : (id n : ℕ) (es ws : List ℕ) → sound (id ∷ (n ∷ es)) ws ≡ true
    → (length (take n ws) ≡ n) × (sound es (drop n ws) ≡ true)
unfolding sound
sound-after id n es ws s =
    let p = whichever_true (leb n (length ws)) (whichever (imaged (take n ws)) (sound es (drop n ws)) false) s in
    let q = whichever_true (imaged (take n ws)) (sound es (drop n ws)) p.1 in
    (length-take-le n ws (leb-true n (length ws) p.0), q.1)

pub split-length : (es ws : List ℕ) → InPairs es → length (split es ws) ≡ length es / 2
unfolding split
split-length [] ws p = refl
split-length (id ∷ []) ws p = absurd p
split-length (id ∷ (n ∷ es)) ws p = let h = split-length es (drop n ws) p.1 in omega arith

split-index : (k : ℕ) (es ws : List ℕ) → InPairs es → sound es ws ≡ true → index_bytes k (split es ws) ≡ index_asked k es
unfolding split index_bytes index_asked
split-index k [] ws p s = refl
split-index k (id ∷ []) ws p s = absurd p
split-index k (id ∷ (n ∷ es)) ws p s =
    let a = sound-after id n es ws s in
    let size = a.0 in
    rw size (ap (λ (l : List ℕ). (pair id ++ (pair k ++ (pair n ++ pair 0))) ++ l)
    (split-index (k + room_of n) es (drop n ws) p.1 a.1))

split-rooms : (es ws : List ℕ) → InPairs es → sound es ws ≡ true → rooms (split es ws) ≡ blocks_asked es
unfolding split rooms blocks_asked
split-rooms [] ws p s = refl
split-rooms (id ∷ []) ws p s = absurd p
split-rooms (id ∷ (n ∷ es)) ws p s =
    let a = sound-after id n es ws s in
    let size = a.0 in
    let more = split-rooms es (drop n ws) p.1 a.1 in
    rw size (rw more)

-- ---- the file
module _ (es ws : List ℕ) (pairs : InPairs es) (good : sound es ws ≡ true) where
  pub file-asked : (x y : List ℕ) → x ≡ block (filled (pair (length es / 2) ++ index_asked 1 es)) 0 → y ≡ bodies 1 (split es ws)
      → x ++ y ≡ file (split es ws)
  unfolding file
  file-asked x y start rest =
      let count = split-length es ws pairs in
      let index = split-index 1 es ws pairs good in
      rw start (rw rest (rw count (rw index)))

  pub need-is : length es ≤ 120 → need es ws ≡ 512 * (1 + blocks_asked es)
  need-is short =
      let count = split-length es ws pairs in
      file_size (split es ws) (omega arith) ∙ ap (λ (n : ℕ). 512 * (1 + n)) (split-rooms es ws pairs good)

-- ---- the answers
module _ (es ws area area' : List ℕ) where
  pub writes-unlisted : listable entry_limit 0 es ≡ false → area' ≡ area → WritesLibrary es ws area area' (Err BadEntries)
  unfolding write_answer
  writes-unlisted l a = record { answer = rw l; leaves = a }

  module _ (listed : listable entry_limit 0 es ≡ true) where
    pub writes-malformed : sound es ws ≡ false → area' ≡ area → WritesLibrary es ws area area' (Err Malformed)
    unfolding write_answer
    writes-malformed s a = record { answer = rw listed (rw s); leaves = a }

    module _ (good : sound es ws ≡ true) (n : ℕ) (size : n ≡ need es ws) where
      pub writes_short : length area < n → area' ≡ area → WritesLibrary es ws area area' (Err (NoRoom n))
      unfolding write_answer
      writes_short h a =
          let short = lt-leb (need es ws) (length area) (omega arith) in
          record { answer = rw listed (rw good (rw short (ap (λ (m : ℕ). Err (NoRoom m)) size))); leaves = a }

      pub writes-file : n ≤ length area → area' ≡ file (split es ws) ++ drop n area → WritesLibrary es ws area area' (Ok n)
      unfolding write_answer
      writes-file h a =
          let room = le-leb (need es ws) (length area) (omega arith) in
          record { answer = rw listed (rw good (rw room (ap (λ (m : ℕ). Ok m) size))); leaves = a }
