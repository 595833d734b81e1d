-- Request Eight's refusals of the reader and of listing, each with its rule: "in that order".
-- Assumes nothing: these are definitions.
use Rattle.std.specs.Prelude.{ℕ, ◌*◌, ◌/◌, ◌%◌, ◌≤◌, ◌<◌, ◌≡◌, ◌⊎◌, true, false, List, None, Ok, Err, length}
use Rattle.theory.specs.LayoutOne.{Image}
use Rattle.blocks.specs.Block.{block_size, pair_at, intact, block_of}
use Rattle.library.specs.Index.{entry_limit, room_of, used_by, index_good, placed}
use Rattle.library.specs.Read.{words_from, whole_blocks, sought, Fetched}
use Rattle.library.specs.List.{Listed}
use Rattle.library.specs.declared.index.IndexError.TheVariants.{BadLength, BadStart, BadIndex}
use Rattle.library.specs.declared.list.ListError.TheVariants as listing
use Rattle.library.specs.declared.read.ReadError.TheVariants as reading

-- "40 length no multiple of 512 or zero"
abbrev pub Odd : List ℕ → Type 0
Odd f = (length f % block_size ≡ 0 → ⊥) ⊎ (length f ≡ 0)

-- what block 0 counts
abbrev pub count_in : List ℕ → ℕ
count_in f = pair_at (block_of 0 f) 0

-- "41 block 0 damaged"
abbrev pub Spoilt : List ℕ → Type 0
Spoilt f = intact (used_by (count_in f)) 0 (block_of 0 f) ≡ false

-- "42 index breaks a rule"
abbrev pub Broken : List ℕ → Type 0
Broken f = (entry_limit < count_in f) ⊎ (index_good (count_in f) 0 1 2 (block_of 0 f) (length f / block_size) ≡ false)

pub record GoodStart (f : List ℕ) : Type 0 where
  pub even : ¬ (Odd f)
  pub sound : ¬ (Spoilt f)
  pub kept : ¬ (Broken f)

-- the description of an identifier is found in the index
pub record FindsAt (f : List ℕ) (id k n : ℕ) : Type 0 where
  pub begins : GoodStart f
  pub found : sought id (count_in f) f ≡ placed k n

-- the rule of an answer of the reader holds, and no earlier one
pub data Why (f : List ℕ) (id room : ℕ) : Fetched → Type 0 where
  odd : Odd f → Why f id room (Err (reading.Index BadLength))
  spoilt : ¬ (Odd f) → Spoilt f → Why f id room (Err (reading.Index BadStart))
  broken : ¬ (Odd f) → ¬ (Spoilt f) → Broken f → Why f id room (Err (reading.Index BadIndex))
  -- "43 no such identifier"
  absent : GoodStart f → sought id (count_in f) f ≡ None → Why f id room (Err reading.Absent)
  -- "44 a block of it damaged"
  damaged : (k n : ℕ) → FindsAt f id k n → whole_blocks (room_of n) k n f ≡ false → Why f id room (Err reading.Damaged)
  -- "45 description malformed"
  malformed : (k n : ℕ) → FindsAt f id k n → whole_blocks (room_of n) k n f ≡ true → ¬ (Image (words_from k 0 n f))
      → Why f id room (Err reading.Malformed)
  -- "46 no room"
  short : (k n : ℕ) → FindsAt f id k n → whole_blocks (room_of n) k n f ≡ true → Image (words_from k 0 n f) → room < n
      → Why f id room (Err (reading.NoRoom n))
  fine : (k n : ℕ) → FindsAt f id k n → whole_blocks (room_of n) k n f ≡ true → Image (words_from k 0 n f) → n ≤ room
      → Why f id room (Ok n)

-- the same for listing
pub data WhyListed (f : List ℕ) (room : ℕ) : Listed → Type 0 where
  odd_list : Odd f → WhyListed f room (Err (listing.Index BadLength))
  spoilt_list : ¬ (Odd f) → Spoilt f → WhyListed f room (Err (listing.Index BadStart))
  broken_list : ¬ (Odd f) → ¬ (Spoilt f) → Broken f → WhyListed f room (Err (listing.Index BadIndex))
  -- "46 no room": two words an entry
  short_list : GoodStart f → room < 2 * count_in f → WhyListed f room (Err (listing.NoRoom (2 * count_in f)))
  fine_list : GoodStart f → 2 * count_in f ≤ room → WhyListed f room (Ok (2 * count_in f))
