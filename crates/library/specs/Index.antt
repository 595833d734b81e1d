-- What the start of a library must be: the refusals 40, 41 and 42 of request Eight, and where its index says that a description
-- stands.
-- Assumes nothing: these are definitions.
use Rattle.std.specs.Prelude.{ℕ, zero, suc, ◌+◌, ◌*◌, ◌/◌, ◌%◌, min, Bool, false, List, length, eqb, leb}
use Rattle.std.specs.Prelude.{Option, Some, None, Result, Ok, Err}
use Rattle.theory.specs.Limits.{input_limit}
use Rattle.blocks.specs.Block.{block_size, content_size, whichever, pair_at, intact, block_of}
use Rattle.library.specs.declared.index.IndexError.{IndexError}
use Rattle.library.specs.declared.index.IndexError.TheVariants.{BadLength, BadStart, BadIndex}
use Rattle.library.specs.declared.index.Place.{Place}

-- "up to 60 index entries"
abbrev pub entry_limit : ℕ
entry_limit = 60

-- "16-bit numbers": identifiers are below it
abbrev pub identifier_limit : ℕ
identifier_limit = 65536

-- "126 words per block"
abbrev pub words_per_block : ℕ
words_per_block = 126

-- "words (3 to 1,024)"
abbrev pub least_words : ℕ
least_words = 3

-- how many blocks so many words take
abbrev pub room_of : ℕ → ℕ
room_of n = (n + 125) / words_per_block

-- how many of n words stand in the first of their blocks
abbrev pub first_part : ℕ → ℕ
first_part n = min n words_per_block

-- the used bytes of block 0: "a 16-bit count and up to 60 index entries of four 16-bit numbers", "for a count over 60, none is
-- unused"
unfoldable pub used_by : ℕ → ℕ
used_by count = whichever (leb count entry_limit) (2 + 8 * count) content_size

-- "identifier (rising), first block, words (3 to 1,024), 0", "in index order without gaps": the entry at byte p of block 0, where
-- identifiers from low on may stand and block `next` comes next
unfoldable pub entry_good : ℕ → ℕ → ℕ → List ℕ → Bool
entry_good low next p b =
    whichever (leb low (pair_at b p))
    (whichever (eqb (pair_at b (p + 2)) next)
    (whichever (leb least_words (pair_at b (p + 4)))
    (whichever (leb (pair_at b (p + 4)) input_limit) (eqb (pair_at b (p + 6)) 0) false)
    false)
    false)
    false

-- "up to the file's end": the entries from byte p on
unfoldable pub index_good : ℕ → ℕ → ℕ → ℕ → List ℕ → ℕ → Bool
index_good zero low next p b total = eqb next total
index_good (suc c) low next p b total =
    whichever (entry_good low next p b)
    (index_good c (pair_at b p + 1) (next + room_of (pair_at b (p + 4))) (p + 8) b total)
    false

-- where a description stands that has n words from block k on
abbrev pub placed : ℕ → ℕ → Option Place
placed k n = Some (record { first = k; words = n })

-- the entry of an identifier, from byte p on
unfoldable pub found : ℕ → ℕ → ℕ → List ℕ → Option Place
found id zero p b = None
found id (suc c) p b = whichever (eqb (pair_at b p) id) (placed (pair_at b (p + 2)) (pair_at b (p + 4))) (found id c (p + 8) b)

-- how many entries an index has, or why there is none
abbrev pub Index : Type 0
Index = Result ℕ IndexError

-- 41 "block 0 damaged", 42 "index breaks a rule", of a library of so many blocks
unfoldable pub start_of : List ℕ → ℕ → Index
start_of b total =
    whichever (intact (used_by (pair_at b 0)) 0 b)
    (whichever (leb (pair_at b 0) entry_limit)
    (whichever (index_good (pair_at b 0) 0 1 2 b total) (Ok (pair_at b 0)) (Err BadIndex))
    (Err BadIndex))
    (Err BadStart)

-- 40 "length no multiple of 512 or zero"
unfoldable pub index_of : List ℕ → Index
index_of f =
    whichever (eqb (length f % block_size) 0)
    (whichever (eqb (length f) 0) (Err BadLength) (start_of (block_of 0 f) (length f / block_size)))
    (Err BadLength)
