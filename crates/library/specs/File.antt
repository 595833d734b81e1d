-- The file of a library, as request Eight has it: "a file in our house blocks".
-- Assumes nothing: these are definitions.
use Rattle.std.specs.Prelude.{ℕ, zero, suc, ◌+◌, ◌/◌, ◌%◌, ◌≤◌, ◌<◌, List, [], ◌∷◌, ◌++◌, length, take, drop, eqb}
use Rattle.std.proofs.Math.Option.{Option, none, some}
use Rattle.theory.specs.Limits.{input_limit}
use Rattle.theory.specs.LayoutOne.{Image}
use Rattle.blocks.specs.Block.{whichever, pair, block, filled}
use Rattle.library.specs.Index.{entry_limit, identifier_limit, words_per_block, least_words, room_of}

-- an identifier and the words of its description
abbrev pub LibraryEntry : Type 0
LibraryEntry = ℕ × List ℕ

-- "all numbers little-endian": a word in 32 bits
abbrev pub quad : ℕ → List ℕ
quad w = (w % 256) ∷ (w / 256 % 256) ∷ (w / 65536 % 256) ∷ (w / 16777216 % 256) ∷ []

unfoldable pub word_bytes : List ℕ → List ℕ
word_bytes [] = []
word_bytes (w ∷ ws) = quad w ++ word_bytes ws

-- "Each description begins a fresh block, 126 words per block, unused content zero": c blocks from block k on
unfoldable pub description_blocks : ℕ → ℕ → List ℕ → List ℕ
description_blocks zero k ws = []
description_blocks (suc c) k ws =
    block (filled (word_bytes (take words_per_block ws))) k ++ description_blocks c (k + 1) (drop words_per_block ws)

-- "in index order without gaps, up to the file's end": the descriptions from block k on
unfoldable pub bodies : ℕ → List LibraryEntry → List ℕ
bodies k [] = []
bodies k (e ∷ l) =
    description_blocks (room_of (length e.1)) k e.1 ++ bodies (k + room_of (length e.1)) l

-- "index entries of four 16-bit numbers: identifier (rising), first block, words (3 to 1,024), 0"
unfoldable pub index_bytes : ℕ → List LibraryEntry → List ℕ
index_bytes k [] = []
index_bytes k (e ∷ l) =
    (pair e.0 ++ (pair k ++ (pair (length e.1) ++ pair 0))) ++ index_bytes (k + room_of (length e.1)) l

-- "Block 0 holds a 16-bit count and up to 60 index entries"
unfoldable pub file : List LibraryEntry → List ℕ
file l = block (filled (pair (length l) ++ index_bytes 1 l)) 0 ++ bodies 1 l

-- every word has 32 bits
abbrev pub Narrow : List ℕ → Type 0
Narrow [] = Unit {0}
Narrow (w ∷ ws) = (w < 4294967296) × Narrow ws

-- an entry of a library: its identifier has 16 bits, and its 3 to 1,024 words are a description's
pub record ProperEntry (low : ℕ) (e : LibraryEntry) : Type 0 where
  pub rises : low ≤ e.0
  pub short : e.0 < identifier_limit
  pub least : least_words ≤ length e.1
  pub most : length e.1 ≤ input_limit
  pub small : Narrow e.1
  pub image : Image e.1

-- identifiers rise, here from low on
abbrev pub Sorted : ℕ → List LibraryEntry → Type 0
Sorted low [] = Unit {0}
Sorted low (e ∷ l) = ProperEntry low e × Sorted (e.0 + 1) l

-- a library: "up to 60 index entries"
pub record Library (l : List LibraryEntry) : Type 0 where
  pub few : length l ≤ entry_limit
  pub sorted : Sorted 0 l

-- the words of an identifier
unfoldable pub words_under : ℕ → List LibraryEntry → Option (List ℕ)
words_under id [] = none
words_under id (e ∷ l) = whichever (eqb e.0 id) (some e.1) (words_under id l)

-- each entry's identifier and number of words
unfoldable pub list_of : List LibraryEntry → List ℕ
list_of [] = []
list_of (e ∷ l) = e.0 ∷ length e.1 ∷ list_of l
