-- A read depends on the file's length, on block 0 and on the description's own blocks only: "It costs only the description in it".
-- Assumes nothing.
use Prim.Native.Nat.{ℕ, zero, suc, ◌+◌, ◌-◌, ◌/◌}
use native.Mathlib.Omega.{arith}
use mathlib.Core.Path.{◌≡◌, refl, sym, ap, ◌∙◌}
use mathlib.Core.List.{List, ◌++◌}
use lib.ListN.{length}
use Rattle.blocks.specs.Block.{block_of}
use Rattle.library.specs.Index.{room_of, first_part, Index, index_of}
use Rattle.library.specs.Read.{words_from, whole_blocks, fetch_answer_at, fetch_answer_found, sought, fetch_answer_by, fetch_answer, words_found, words_by, words_asked}
use Rattle.std.specs.Prelude.{Option, Some, None, Ok, Err}
use Rattle.library.specs.declared.index.Place.{Place}
use Rattle.library.proofs.Words.{block_words, words_split}

module _ (f g : List ℕ) where
  -- the c blocks from block k on are the same
  abbrev Alike : ℕ → ℕ → Type 0
  Alike zero k = Unit {0}
  Alike (suc c) k = (block_of k f ≡ block_of k g) × Alike c (k + 1)

  whole_alike : (c k n : ℕ) → Alike c k → whole_blocks c k n f ≡ whole_blocks c k n g
  unfolding whole_blocks
  whole_alike zero k n a = refl
  whole_alike (suc c) k n a = let e = a.0 in let r = whole_alike c (k + 1) (n - first_part n) a.1 in rw e (rw r)

  words_alike : (c k n : ℕ) → c ≡ room_of n → Alike c k → words_from k 0 n f ≡ words_from k 0 n g
  unfolding words_from
  words_alike zero k zero r a = refl
  words_alike zero k (suc n) r a = absurd (let e : 0 ≡ (suc n + 125) / 126 = r in omega arith)
  words_alike (suc c) k n r a =
      words_split f k n ∙ ap (λ (b : List ℕ). block_words (first_part n) 0 b ++ words_from (k + 1) 0 (n - first_part n) f) a.0
      ∙ ap (λ (l : List ℕ). block_words (first_part n) 0 (block_of k g) ++ l) (words_alike c (k + 1) (n - first_part n) (omega arith) a.1) ∙ sym (words_split g k n)

  -- the blocks of the description that was found are the same
  abbrev pub Same : Option Place → Type 0
  Same (Some p) = Alike (room_of p.words) p.first
  Same None = Unit {0}

  abbrev pub Agree : Index → ℕ → Type 0
  Agree (Ok count) id = Same (sought id count f)
  Agree (Err e) id = Unit {0}

  module _ (size : length f ≡ length g) (start : block_of 0 f ≡ block_of 0 g) where
    index_alike : index_of f ≡ index_of g
    unfolding index_of
    index_alike = rw size (rw start)

    found_alike : (x : Option Place) → Same x → (room : ℕ) → (fetch_answer_found x f room ≡ fetch_answer_found x g room) × (words_found x f ≡ words_found x g)
    unfolding fetch_answer_found fetch_answer_at words_found
    found_alike (Some p) a room =
        let k = p.first in
        let n = p.words in
        let w = whole_alike (room_of n) k n a in
        let v = words_alike (room_of n) k n refl a in
        (rw w (rw v), v)
    found_alike None a room = (refl, refl)

    by_index : (x : Index) (id room : ℕ) → Agree x id → (fetch_answer_by x id f room ≡ fetch_answer_by x id g room) × (words_by x id f ≡ words_by x id g)
    unfolding fetch_answer_by words_by
    by_index (Ok count) id room a =
        let e = found_alike (sought id count f) a room in
        let s : sought id count f ≡ sought id count g = rw start in
        (e.0 ∙ ap (λ (x : Option Place). fetch_answer_found x g room) s, e.1 ∙ ap (λ (x : Option Place). words_found x g) s)
    by_index (Err e) id room a = (refl, refl)

    pub read_local : (id room : ℕ) → Agree (index_of f) id → (fetch_answer f id room ≡ fetch_answer g id room) × (words_asked f id ≡ words_asked g id)
    unfolding fetch_answer words_asked
    read_local id room a = let e = by_index (index_of f) id room a in (e.0 ∙ ap (λ (x : Index). fetch_answer_by x id g room) index_alike, e.1 ∙ ap (λ (x : Index). words_by x id g) index_alike)
