-- By which numbers the answers of the writer are told.
-- Assumes nothing: these are definitions.
use Rattle.std.specs.Prelude.{ℕ, ◌≡◌, List, Ok, Err}
use Rattle.library_writing.specs.Write.{Written, WritesLibrary}
use Rattle.library_writing.specs.declared.write.WriteError.TheVariants.{NoRoom, Malformed, BadEntries}

-- "the writer gives 47 …, 45, 46"
abbrev pub write_number : Written → ℕ
write_number (Ok n) = 0
write_number (Err (NoRoom n)) = 46
write_number (Err Malformed) = 45
write_number (Err BadEntries) = 47

-- the bytes that were written, or those that are needed
abbrev pub write_extent : Written → ℕ
write_extent (Ok n) = n
write_extent (Err (NoRoom n)) = n
write_extent (Err Malformed) = 0
write_extent (Err BadEntries) = 0

-- number and extent are those of the answer to writing the entries es over the words ws, which leaves `area'` where `area` stood
pub record WriteTold (es ws area : List ℕ) (number extent : ℕ) (area' : List ℕ) : Type 0 where
  pub answer : Written
  pub writes : WritesLibrary es ws area area' answer
  pub the_number : number ≡ write_number answer
  pub the_extent : extent ≡ write_extent answer
