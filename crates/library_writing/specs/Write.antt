-- What writing a library gives: "the writer gives 47 (over 60, identifiers not rising or over 65,535, over 1,024 words), 45, 46".
-- Assumes nothing: these are definitions.
use Rattle.std.specs.Prelude.{ℕ, zero, suc, ◌+◌, ◌≤◌, ◌≡◌, Bool, true, false, List, [], ◌∷◌, ◌++◌, length, take, drop, leb, ltb}
use Rattle.std.specs.Prelude.{Result, Ok, Err}
use Rattle.theory.specs.Limits.{input_limit}
use Rattle.blocks.specs.Block.{whichever, pair}
use Rattle.library.specs.Index.{room_of, entry_limit, identifier_limit}
use Rattle.library.specs.File.{LibraryEntry, file}
use Rattle.library.specs.Read.{imaged}
use Rattle.library_writing.specs.declared.write.WriteError.{WriteError}
use Rattle.library_writing.specs.declared.write.WriteError.TheVariants.{NoRoom, Malformed, BadEntries}

-- so many bytes are written, or why none are
abbrev pub Written : Type 0
Written = Result ℕ WriteError

-- what is asked to be written: entries of two words, identifier and number of words, and an area in which the descriptions follow
-- each other
unfoldable pub split : List ℕ → List ℕ → List LibraryEntry
split [] ws = []
split (id ∷ []) ws = []
split (id ∷ (n ∷ es)) ws = (id, take n ws) ∷ split es (drop n ws)

-- "47 (over 60, identifiers not rising or over 65,535, over 1,024 words)", or an odd number of words: c entries more are allowed,
-- whose identifiers go on from low
unfoldable pub listable : ℕ → ℕ → List ℕ → Bool
listable c low [] = true
listable c low (id ∷ []) = false
listable zero low (id ∷ (n ∷ es)) = false
listable (suc c) low (id ∷ (n ∷ es)) =
    whichever (leb low id)
    (whichever (ltb id identifier_limit) (whichever (leb n input_limit) (listable c (id + 1) es) false) false)
    false

-- "45": no description is malformed, or cut short by the area's end
unfoldable pub sound : List ℕ → List ℕ → Bool
sound [] ws = true
sound (id ∷ []) ws = true
sound (id ∷ (n ∷ es)) ws =
    whichever (leb n (length ws)) (whichever (imaged (take n ws)) (sound es (drop n ws)) false) false

-- the bytes of what is asked
abbrev pub need : List ℕ → List ℕ → ℕ
need es ws = length (file (split es ws))

-- "47 …, 45, 46"
unfoldable pub write_answer : List ℕ → List ℕ → ℕ → Written
write_answer es ws room =
    whichever (listable entry_limit 0 es)
    (whichever (sound es ws) (whichever (leb (need es ws) room) (Ok (need es ws)) (Err (NoRoom (need es ws)))) (Err Malformed))
    (Err BadEntries)

-- "A refusal writes nothing"
abbrev pub written_after : Written → List ℕ → List ℕ → List ℕ
written_after (Ok n) bs area = bs ++ drop n area
written_after (Err e) bs area = area

-- the writer's contract: number, need and every byte of the area
pub record WritesLibrary (es ws area area' : List ℕ) (r : Written) : Type 0 where
  pub answer : r ≡ write_answer es ws (length area)
  pub leaves : area' ≡ written_after r (file (split es ws)) area

-- entries come in pairs of words, none of over 1,024 words
abbrev pub InPairs : List ℕ → Type 0
InPairs [] = Unit {0}
InPairs (id ∷ []) = ⊥
InPairs (id ∷ (n ∷ es)) = (n ≤ input_limit) × InPairs es

-- the blocks that their descriptions take
unfoldable pub blocks_asked : List ℕ → ℕ
blocks_asked [] = 0
blocks_asked (id ∷ []) = 0
blocks_asked (id ∷ (n ∷ es)) = room_of n + blocks_asked es

-- their index, where descriptions begin at block k
unfoldable pub index_asked : ℕ → List ℕ → List ℕ
index_asked k [] = []
index_asked k (id ∷ []) = []
index_asked k (id ∷ (n ∷ es)) = (pair id ++ (pair k ++ (pair n ++ pair 0))) ++ index_asked (k + room_of n) es

-- the descriptions of entries, from block k on, have numbers in 16 bits
pub record InReach (k : ℕ) (es : List ℕ) : Type 0 where
  pub pairs : InPairs es
  pub near : k + blocks_asked es ≤ 65536
