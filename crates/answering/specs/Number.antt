-- Number, length, readings and node of each answer.
-- Assumes nothing: these are definitions.
use Rattle.std.specs.Prelude.{Ok, Err}
use Rattle.theory.specs.Outcome.{Row}
use Rattle.answering.specs.declared.answer.Refusal.TheVariants.{BadMode, SmallArea, TooLong, BadFirst, BadSecond, Clash, TooMany}
use Rattle.answering.specs.declared.answer.Refusal.TheVariants.{NoRoom, QuickFails, NoChoice}
use Rattle.answering.specs.Answer.{Answer}

-- the columns "No.", "Length" ("words needed" after 8, "words written" after 0) and "Readings" of the table of numbers;
-- "all numbers but 6 carry node 0"
abbrev pub row_of : Answer → Row
row_of (Ok u) = record { number = 0; extent = u.length; readings = u.readings; node = 0 }
row_of (Err BadMode) = record { number = 1; extent = 0; readings = 0; node = 0 }
row_of (Err SmallArea) = record { number = 2; extent = 0; readings = 0; node = 0 }
row_of (Err TooLong) = record { number = 3; extent = 0; readings = 0; node = 0 }
row_of (Err (BadFirst c)) = record { number = 4; extent = 0; readings = 0; node = 0 }
row_of (Err (BadSecond c)) = record { number = 5; extent = 0; readings = 0; node = 0 }
row_of (Err (Clash i)) = record { number = 6; extent = 0; readings = 0; node = i }
row_of (Err TooMany) = record { number = 7; extent = 0; readings = 0; node = 0 }
row_of (Err (NoRoom n)) = record { number = 8; extent = n; readings = 0; node = 0 }
row_of (Err QuickFails) = record { number = 10; extent = 0; readings = 0; node = 0 }
row_of (Err NoChoice) = record { number = 11; extent = 0; readings = 0; node = 0 }
