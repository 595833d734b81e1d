-- Which block of a library is damaged, and what that costs: "It costs only the description in it; a damaged block 0 costs the file."
-- Assumes nothing: these are definitions.
use Rattle.std.specs.Prelude.{ℕ, zero, suc, ◌+◌, ◌*◌, ◌-◌, Bool, false, List, Option, Some, None, Result, Ok, Err, eqb, leb, ltb}
use Rattle.blocks.specs.Block.{whichever, pair_at, intact, block_of}
use Rattle.library.specs.Index.{words_per_block, room_of, first_part, Index, index_of}
use Rattle.library.specs.declared.survey.Holder.{Holder}
use Rattle.library.specs.declared.survey.CheckError.{CheckError}
use Rattle.library.specs.declared.survey.CheckError.TheVariants as error

-- a block is damaged, which costs the description of that identifier, or it is whole; or why no block can be judged
abbrev pub Checked : Type 0
Checked = Result (Option ℕ) CheckError

-- the description of that identifier holds a block, of which it uses so many bytes
abbrev pub held_by : ℕ → ℕ → Option Holder
held_by id used = Some (record { identifier = id; used = used })

-- block k is one of the blocks of n words from block `first` on
unfoldable pub block_among : ℕ → ℕ → ℕ → Bool
block_among first n k = whichever (leb first k) (ltb (k - first) (room_of n)) false

-- "Each description begins a fresh block, 126 words per block": the entry, of c from byte p on, whose blocks have block k among
-- them, and the bytes of that block that its words use
unfoldable pub holder_of : ℕ → ℕ → ℕ → List ℕ → Option Holder
holder_of k zero p b = None
holder_of k (suc c) p b =
    whichever (block_among (pair_at b (p + 2)) (pair_at b (p + 4)) k)
    (held_by (pair_at b p) (4 * first_part (pair_at b (p + 4) - words_per_block * (k - pair_at b (p + 2)))))
    (holder_of k c (p + 8) b)

-- "A block is damaged": block k of f, in the description that holds it
unfoldable pub checked_in : Option Holder → ℕ → List ℕ → Checked
checked_in (Some h) k f = whichever (intact h.used k (block_of k f)) (Ok None) (Ok (Some h.identifier))
checked_in None k f = Err error.NoBlock

-- block k of a library of so many entries, whose block 0 is not damaged
unfoldable pub held_checked : ℕ → ℕ → List ℕ → Checked
held_checked k count f = whichever (eqb k 0) (Ok None) (checked_in (holder_of k count 2 (block_of 0 f)) k f)

unfoldable pub checked_by : Index → ℕ → List ℕ → Checked
checked_by (Ok count) k f = held_checked k count f
checked_by (Err e) k f = Err (error.Index e)

unfoldable pub block_checked : ℕ → List ℕ → Checked
block_checked k f = checked_by (index_of f) k f
