-- What reading a description of a library gives: request Eight's numbers 40 to 46, in that order.
-- Assumes nothing: these are definitions.
use Rattle.std.specs.Prelude.{ℕ, zero, suc, ◌+◌, ◌*◌, ◌-◌, ◌/◌, ◌%◌, ◌≤◌, ◌≡◌, Bool, true, false, List, [], ◌∷◌, ◌++◌, length, get_or, drop, leb}
use Rattle.std.specs.Prelude.{Option, Some, None, Result, Ok, Err}
use Rattle.std.proofs.Math.Option as math
use Rattle.theory.specs.Limits.{input_limit}
use Rattle.theory.specs.Descr.{Desc}
use Rattle.theory.specs.Reading.{decode}
use Rattle.blocks.specs.Block.{block_size, whichever, intact, block_of}
use Rattle.library.specs.Index.{words_per_block, room_of, first_part, Index, found, index_of}
use Rattle.library.specs.declared.index.Place.{Place}
use Rattle.library.specs.declared.read.ReadError.{ReadError}
use Rattle.library.specs.declared.read.ReadError.TheVariants as error

-- so many words are read, or why none are
abbrev pub Fetched : Type 0
Fetched = Result ℕ ReadError

-- the word that stands in the four bytes from i on
abbrev pub quad_at : List ℕ → ℕ → ℕ
quad_at b i = (get_or b i 0 + 256 * get_or b (i + 1) 0) + 65536 * (get_or b (i + 2) 0 + 256 * get_or b (i + 3) 0)

-- "126 words per block": n words from word i on of a description that begins in block k
unfoldable pub words_from : ℕ → ℕ → ℕ → List ℕ → List ℕ
words_from k i zero f = []
words_from k i (suc n) f =
    quad_at f (block_size * (k + i / words_per_block) + 4 * (i % words_per_block)) ∷ words_from k (i + 1) n f

-- n words from block k on stand within the file
pub record StandsWithin (k n : ℕ) (f : List ℕ) : Type 0 where
  pub few : n ≤ input_limit
  pub inside : block_size * (k + room_of n) ≤ length f

-- none of the c blocks of n words is damaged, from block k on
unfoldable pub whole_blocks : ℕ → ℕ → ℕ → List ℕ → Bool
whole_blocks zero k n f = true
whole_blocks (suc c) k n f =
    whichever (intact (4 * first_part n) k (block_of k f)) (whole_blocks c (k + 1) (n - first_part n) f) false

-- the words are the image of a description
abbrev pub has_read : math.Option Desc → Bool
has_read math.none = false
has_read (math.some d) = true

unfoldable pub imaged : List ℕ → Bool
imaged ws = has_read (decode ws)

-- 44 "a block of it damaged", 45 "description malformed", 46 "no room", of n words from block k on
unfoldable pub fetch_answer_at : ℕ → ℕ → List ℕ → ℕ → Fetched
fetch_answer_at k n f room =
    whichever (whole_blocks (room_of n) k n f)
    (whichever (imaged (words_from k 0 n f)) (whichever (leb n room) (Ok n) (Err (error.NoRoom n))) (Err error.Malformed))
    (Err error.Damaged)

-- 43 "no such identifier"
unfoldable pub fetch_answer_found : Option Place → List ℕ → ℕ → Fetched
fetch_answer_found (Some p) f room = fetch_answer_at p.first p.words f room
fetch_answer_found None f room = Err error.Absent

abbrev pub sought : ℕ → ℕ → List ℕ → Option Place
sought id count f = found id count 2 (block_of 0 f)

unfoldable pub fetch_answer_by : Index → ℕ → List ℕ → ℕ → Fetched
fetch_answer_by (Ok count) id f room = fetch_answer_found (sought id count f) f room
fetch_answer_by (Err e) id f room = Err (error.Index e)

unfoldable pub fetch_answer : List ℕ → ℕ → ℕ → Fetched
fetch_answer f id room = fetch_answer_by (index_of f) id f room

-- the words of the description of an identifier
unfoldable pub words_found : Option Place → List ℕ → List ℕ
words_found (Some p) f = words_from p.first 0 p.words f
words_found None f = []

unfoldable pub words_by : Index → ℕ → List ℕ → List ℕ
words_by (Ok count) id f = words_found (sought id count f) f
words_by (Err e) id f = []

unfoldable pub words_asked : List ℕ → ℕ → List ℕ
words_asked f id = words_by (index_of f) id f

-- "A refusal writes nothing": the area afterwards
abbrev pub area_after : Fetched → List ℕ → List ℕ → List ℕ
area_after (Ok n) ws area = ws ++ drop n area
area_after (Err e) ws area = area

-- the reader's contract: number, need and every word of the area
pub record Fetches (f : List ℕ) (id : ℕ) (area area' : List ℕ) (r : Fetched) : Type 0 where
  pub answer : r ≡ fetch_answer f id (length area)
  pub leaves : area' ≡ area_after r (words_asked f id) area

pub record FetchesFound (x : Option Place) (f area area' : List ℕ) (r : Fetched) : Type 0 where
  pub answer : r ≡ fetch_answer_found x f (length area)
  pub leaves : area' ≡ area_after r (words_found x f) area

pub record FetchesAt (k n : ℕ) (f area area' : List ℕ) (r : Fetched) : Type 0 where
  pub answer : r ≡ fetch_answer_at k n f (length area)
  pub leaves : area' ≡ area_after r (words_from k 0 n f) area
