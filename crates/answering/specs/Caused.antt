-- The cause that an answer carries of a malformed input.
-- Assumes nothing: these are definitions.
use Rattle.std.specs.Prelude.{ℕ, List, Ok, Err}
use Rattle.roles.specs.Faults.{Faulty}
use Rattle.roles.specs.Coded.{cause_of}
use Rattle.roles.specs.declared.cause.Cause.{Cause}
use Rattle.answering.specs.declared.answer.Refusal.TheVariants.{BadMode, SmallArea, TooLong, BadFirst, BadSecond, Clash, TooMany}
use Rattle.answering.specs.declared.answer.Refusal.TheVariants.{NoRoom, QuickFails, NoChoice}
use Rattle.answering.specs.Answer.{Answer}

-- the cause is that of the first word that breaks a rule
abbrev pub CauseIn : List ℕ → Cause → Type 0
CauseIn ws c = (p : ℕ) × Faulty ws (cause_of c) p

-- "Numbers 4 and 5 stay, and each carries its cause with the cause's own data"
abbrev pub Caused : (first second : List ℕ) → Answer → Type 0
Caused first second (Err (BadFirst c)) = CauseIn first c
Caused first second (Err (BadSecond c)) = CauseIn second c
Caused first second (Ok u) = Unit {0}
Caused first second (Err BadMode) = Unit {0}
Caused first second (Err SmallArea) = Unit {0}
Caused first second (Err TooLong) = Unit {0}
Caused first second (Err (Clash i)) = Unit {0}
Caused first second (Err TooMany) = Unit {0}
Caused first second (Err (NoRoom n)) = Unit {0}
Caused first second (Err QuickFails) = Unit {0}
Caused first second (Err NoChoice) = Unit {0}
