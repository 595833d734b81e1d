-- Laws of the functions that take block 0 of a file: `b` is the first 512 bytes of the file `f`.
-- Assumes nothing.
use Prim.Native.Nat.{ℕ, ◌*◌, ◌/◌, ◌%◌, ◌≤◌, ◌<◌}
use native.Mathlib.Omega.{arith}
use mathlib.Core.Path.{◌≡◌, refl, sym, ap}
use mathlib.Core.Bool.{true, false, not}
use mathlib.Core.List.{List, ◌++◌}
use lib.ListN.{length, take, drop}
use lib.Seq.{length-take-le}
use borrow.Author.Tests.{eq-eqb, ne_eqb, le-leb, lt-leb}
use Rattle.blocks.specs.Block.{intact, block_of}
use Rattle.library.specs.Index.{Index, start_of, index_of, found}
use Rattle.library.specs.Contents.{listing}
use Rattle.library.specs.List.{list_answer_of, ListsEntries}
use Rattle.library.specs.Read.{Fetched, fetch_answer_found, words_found, sought, FetchesAt, FetchesFound}
use Rattle.library.specs.Check.{holder_of, checked_in, held_checked, checked_by, block_checked}
use Rattle.library.specs.declared.index.Place.{Place}
use Rattle.library.specs.declared.survey.Holder.{Holder}
use Rattle.library.specs.declared.list.ListError.TheVariants as listing_error
use Rattle.library.specs.declared.read.ReadError.TheVariants as reading_error
use Rattle.library.specs.declared.survey.CheckError.TheVariants as error
use Rattle.library.proofs.Good.{opens}
use Rattle.library.proofs.Reading.{not_stop, not_go}
use Rattle.std.specs.Prelude.{Option, Some, None, Ok, Err}

-- a good index stands in a file that has a block
pub never_short : (f : List ℕ) (count : ℕ) → Ok count ≡ index_of f → length f < 512 → ⊥
never_short f count e h = let long = (opens f count e).long in omega arith

-- a block of a library whose index counts so many entries is told as any block is
pub block_held : (k count : ℕ) (f : List ℕ) → Ok count ≡ index_of f → held_checked k count f ≡ block_checked k f
unfolding block_checked checked_by
block_held k count f good = ap (λ (x : Index). checked_by x k f) good

-- block 0 costs no description
pub held_start : (k count : ℕ) (f : List ℕ) → k ≡ 0 → Ok None ≡ held_checked k count f
unfolding held_checked
held_start k count f start = rw (eq-eqb k 0 start)

module _ (f b : List ℕ) (same : b ≡ take 512 f) where
  pub starts : length f % 512 ≡ 0 → 512 ≤ length f → start_of b (length f / 512) ≡ index_of f
  unfolding index_of
  starts even long = rw (same, eq-eqb (length f % 512) 0 even, ne_eqb (length f) 0 (λ z. omega arith))

  module _ (count : ℕ) (area : List ℕ) where
    pub lists_short : length area < 2 * count → ListsEntries count f area area (Err (listing_error.NoRoom (2 * count)))
    unfolding list_answer_of
    lists_short h = record { answer = rw (lt-leb _ _ h); leaves = refl }

    pub lists_all : (dst : List ℕ) → 2 * count ≤ length area → dst ≡ listing (length (take (2 * count) area) / 2) 2 b
        → ListsEntries count f area (dst ++ drop (2 * count) area) (Ok (2 * count))
    unfolding list_answer_of
    lists_all dst h e =
        let n : length (take (2 * count) area) / 2 ≡ count = let size = length-take-le (2 * count) area h in omega arith in
        record { answer = rw (le-leb _ _ h); leaves = rw (e, n, same) }

  pub sought_there : (id count : ℕ) (r : Option Place) → r ≡ found id count 2 b → r ≡ sought id count f
  sought_there id count r e = rw (← same) e

  module _ (id count : ℕ) (area : List ℕ) (r : Option Place) (e : r ≡ found id count 2 b) where
    pub fetches_absent : r ≡ None → FetchesFound (sought id count f) f area area (Err reading_error.Absent)
    unfolding fetch_answer_found
    fetches_absent none = rw (← (sought_there id count r e), none) (record { answer = refl; leaves = refl })

    pub fetches_found : (p : Place) (area' : List ℕ) (x : Fetched) → r ≡ Some p → FetchesAt p.first p.words f area area' x
        → FetchesFound (sought id count f) f area area' x
    unfolding fetch_answer_found words_found
    fetches_found p area' x s fetches = rw (← (sought_there id count r e), s) (record { answer = fetches.answer; leaves = fetches.leaves })

  module _ (k count : ℕ) (later : k ≡ 0 → ⊥) (r : Option Holder) (e : r ≡ holder_of k count 2 b) where
    holder_there : holder_of k count 2 (block_of 0 f) ≡ r
    holder_there = rw (← same) (sym e)

    pub checks_none : r ≡ None → Err error.NoBlock ≡ held_checked k count f
    unfolding held_checked checked_in
    checks_none none = rw (ne_eqb k 0 later, holder_there, none)

    module _ (h : Holder) (s : r ≡ Some h) where
      pub checks_damaged : true ≡ not (intact h.used k (block_of k f)) → Ok (Some h.identifier) ≡ held_checked k count f
      unfolding held_checked checked_in
      checks_damaged d = rw (ne_eqb k 0 later, holder_there, s, not_stop _ (sym d))

      pub checks_whole : false ≡ not (intact h.used k (block_of k f)) → Ok None ≡ held_checked k count f
      unfolding held_checked checked_in
      checks_whole d = rw (ne_eqb k 0 later, holder_there, s, not_go _ (sym d))
