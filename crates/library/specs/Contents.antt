-- What a library's file holds: its descriptions, in index order.
-- Assumes nothing: these are definitions.
use Rattle.std.specs.Prelude.{ℕ, zero, suc, ◌+◌, List, [], ◌∷◌, ◌++◌}
use Rattle.blocks.specs.Block.{pair_at, block_of}
use Rattle.library.specs.File.{LibraryEntry}
use Rattle.library.specs.Read.{words_from, words_asked}

-- the entries from byte p of block 0 on, with the words that they tell of
unfoldable pub entries_from : ℕ → ℕ → List ℕ → List ℕ → List LibraryEntry
entries_from zero p b f = []
entries_from (suc c) p b f =
    (pair_at b p, words_from (pair_at b (p + 2)) 0 (pair_at b (p + 4)) f) ∷ entries_from c (p + 8) b f

-- the library that a file of so many entries holds
abbrev pub contents : ℕ → List ℕ → List LibraryEntry
contents count f = entries_from count 2 (block_of 0 f) f

-- "list": each entry's identifier and number of words
unfoldable pub listing : ℕ → ℕ → List ℕ → List ℕ
listing zero p b = []
listing (suc c) p b = pair_at b p ∷ pair_at b (p + 4) ∷ listing c (p + 8) b

-- descriptions one after the other
unfoldable pub words_in_order : List LibraryEntry → List ℕ
words_in_order [] = []
words_in_order (e ∷ l) = e.1 ++ words_in_order l

-- what is read of each identifier of a list, one after the other
unfoldable pub words_listed : List ℕ → List ℕ → List ℕ
words_listed [] f = []
words_listed (id ∷ []) f = []
words_listed (id ∷ (n ∷ es)) f = words_asked f id ++ words_listed es f
