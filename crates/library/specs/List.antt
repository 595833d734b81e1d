-- What listing a library gives: each entry's identifier and number of words, or the numbers 40, 41, 42, 46.
-- Assumes nothing: these are definitions.
use Rattle.std.specs.Prelude.{ℕ, ◌*◌, ◌≡◌, List, [], ◌++◌, Result, Ok, Err, length, drop, leb}
use Rattle.blocks.specs.Block.{whichever, block_of}
use Rattle.library.specs.Index.{Index, index_of}
use Rattle.library.specs.Contents.{listing}
use Rattle.library.specs.declared.list.ListError.{ListError}
use Rattle.library.specs.declared.list.ListError.TheVariants as error

-- so many words are listed, or why none are
abbrev pub Listed : Type 0
Listed = Result ℕ ListError

-- 46 "no room", of so many entries
unfoldable pub list_answer_of : ℕ → ℕ → Listed
list_answer_of count room = whichever (leb (2 * count) room) (Ok (2 * count)) (Err (error.NoRoom (2 * count)))

unfoldable pub list_answer_by : Index → ℕ → Listed
list_answer_by (Ok count) room = list_answer_of count room
list_answer_by (Err e) room = Err (error.Index e)

unfoldable pub list_answer : List ℕ → ℕ → Listed
list_answer f room = list_answer_by (index_of f) room

-- the list of a library's entries
unfoldable pub list_by : Index → List ℕ → List ℕ
list_by (Ok count) f = listing count 2 (block_of 0 f)
list_by (Err e) f = []

-- "A refusal writes nothing"
abbrev pub listed_after : Listed → List ℕ → List ℕ → List ℕ
listed_after (Ok n) ws area = ws ++ drop n area
listed_after (Err e) ws area = area

pub record ListsEntries (count : ℕ) (f area area' : List ℕ) (r : Listed) : Type 0 where
  pub answer : r ≡ list_answer_of count (length area)
  pub leaves : area' ≡ listed_after r (listing count 2 (block_of 0 f)) area

-- the contract of listing: number, need and every word of the area
pub record ListsLibrary (f area area' : List ℕ) (r : Listed) : Type 0 where
  pub answer : r ≡ list_answer f (length area)
  pub leaves : area' ≡ listed_after r (list_by (index_of f) f) area
