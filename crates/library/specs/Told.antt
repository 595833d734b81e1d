-- By which numbers the answers of the reader and of listing are told.
-- Assumes nothing: these are definitions.
use Rattle.std.specs.Prelude.{ℕ, ◌≡◌, List, Ok, Err}
use Rattle.library.specs.Read.{Fetched, Fetches}
use Rattle.library.specs.List.{Listed, ListsLibrary}
use Rattle.library.specs.declared.index.IndexError.{IndexError}
use Rattle.library.specs.declared.index.IndexError.TheVariants.{BadLength, BadStart, BadIndex}
use Rattle.library.specs.declared.read.ReadError.TheVariants as reading
use Rattle.library.specs.declared.list.ListError.TheVariants as listing

-- "Refusals: 40 length no multiple of 512 or zero, 41 block 0 damaged, 42 index breaks a rule, 43 no such identifier, 44 a block of
-- it damaged, 45 description malformed, 46 no room"
abbrev pub index_number : IndexError → ℕ
index_number BadLength = 40
index_number BadStart = 41
index_number BadIndex = 42

abbrev pub fetch_number : Fetched → ℕ
fetch_number (Ok n) = 0
fetch_number (Err (reading.NoRoom n)) = 46
fetch_number (Err reading.Malformed) = 45
fetch_number (Err reading.Damaged) = 44
fetch_number (Err reading.Absent) = 43
fetch_number (Err (reading.Index e)) = index_number e

-- the words that were read, or those that are needed
abbrev pub fetch_extent : Fetched → ℕ
fetch_extent (Ok n) = n
fetch_extent (Err (reading.NoRoom n)) = n
fetch_extent (Err reading.Malformed) = 0
fetch_extent (Err reading.Damaged) = 0
fetch_extent (Err reading.Absent) = 0
fetch_extent (Err (reading.Index e)) = 0

abbrev pub list_number : Listed → ℕ
list_number (Ok n) = 0
list_number (Err (listing.NoRoom n)) = 46
list_number (Err (listing.Index e)) = index_number e

-- the words of the list, or those that are needed
abbrev pub list_extent : Listed → ℕ
list_extent (Ok n) = n
list_extent (Err (listing.NoRoom n)) = n
list_extent (Err (listing.Index e)) = 0

-- number and extent are those of the answer to reading an identifier of the file f, which leaves `area'` where `area` stood
pub record FetchTold (f : List ℕ) (id : ℕ) (area : List ℕ) (number extent : ℕ) (area' : List ℕ) : Type 0 where
  pub answer : Fetched
  pub fetches : Fetches f id area area' answer
  pub the_number : number ≡ fetch_number answer
  pub the_extent : extent ≡ fetch_extent answer

-- the same for listing the file f
pub record ListTold (f area : List ℕ) (number extent : ℕ) (area' : List ℕ) : Type 0 where
  pub answer : Listed
  pub lists : ListsLibrary f area area' answer
  pub the_number : number ≡ list_number answer
  pub the_extent : extent ≡ list_extent answer
