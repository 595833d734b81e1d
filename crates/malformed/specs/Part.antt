-- The part of whichever of two lent inputs starts at the word that decides.
-- Assumes nothing: these are definitions.
use Rattle.std.specs.Prelude.{ℕ, ◌+◌, ◌*◌, ◌≡◌, List, length, drop, Option, Some, None}
use Rattle.std.specs.Borrow.{Bor}
use Rattle.malformed.specs.Malformed.{MalformedIn}
use Rattle.malformed.specs.declared.judging.Malformed.{Malformed}
use Rattle.malformed.specs.declared.judging.Malformed.TheVariants.{TooLong, First, Second}

abbrev pub Lent : Type 0
Lent = Bor (List ℕ)

-- the words of a lent input from a place on, where they stand: in its block, as many bytes on as four times the place
pub record Tail (input : Lent) (p : ℕ) (part : Lent) : Type 0 where
  pub is : part.now ≡ drop p input.now
  pub block : part.ref_ptr.0 ≡ input.ref_ptr.0
  pub offset : part.ref_ptr.1 ≡ input.ref_ptr.1 + 4 * p

-- "Where neither is malformed, or either is over 1,024 words, it is the empty end of the first."
abbrev pub PartBy : Option Malformed → (first second part : Lent) → Type 0
PartBy (Some (First f)) first second part = Tail first f.at part
PartBy (Some (Second f)) first second part = Tail second f.at part
PartBy None first second part = Tail first (length first.now) part
PartBy (Some TooLong) first second part = Tail first (length first.now) part

-- "the part of whichever of the two lent inputs starts at that word"
pub record Part (first second part : Lent) : Type 0 where
  pub what : Option Malformed
  pub is_so : MalformedIn first.now second.now what
  pub starts : PartBy what first second part
