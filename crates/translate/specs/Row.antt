-- The table of numbers, length and byte, over the answers.
-- Assumes nothing: these are definitions.
use Rattle.std.specs.Prelude.{Ok, Err, ℕ}
use Rattle.signs.specs.declared.reading.ReadError.{ReadError}
use Rattle.signs.specs.declared.reading.ReadError.TheVariants as read
use Rattle.translate.specs.Answer.{Answer}
use Rattle.translate.specs.declared.answer.Refusal.{Refusal}
use Rattle.translate.specs.declared.answer.Refusal.TheVariants.{BadText, TooDeep, Clash, TooLong, NoRoom, LongText}

-- why a text that could not be read is refused
abbrev pub refusal_of : ReadError → Refusal
refusal_of (read.Bad i) = BadText i
refusal_of read.Long = LongText

abbrev pub number_in : Answer → ℕ
number_in (Ok n) = 0
number_in (Err (BadText i)) = 20
number_in (Err TooDeep) = 21
number_in (Err Clash) = 22
number_in (Err TooLong) = 23
number_in (Err (NoRoom n)) = 24
number_in (Err LongText) = 25

-- the words written after 0, those needed after 24
abbrev pub length_in : Answer → ℕ
length_in (Ok n) = n
length_in (Err (BadText i)) = 0
length_in (Err TooDeep) = 0
length_in (Err Clash) = 0
length_in (Err TooLong) = 0
length_in (Err (NoRoom n)) = n
length_in (Err LongText) = 0

-- the byte after 20
abbrev pub byte_in : Answer → ℕ
byte_in (Ok n) = 0
byte_in (Err (BadText i)) = i
byte_in (Err TooDeep) = 0
byte_in (Err Clash) = 0
byte_in (Err TooLong) = 0
byte_in (Err (NoRoom n)) = 0
byte_in (Err LongText) = 0
