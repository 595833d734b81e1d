-- The machine that goes over the bytes: what may come next, and how many groups are open.
-- Assumes nothing: these are definitions.
use Rattle.std.specs.Prelude.{ℕ, zero, suc, ◌+◌, ◌*◌, ◌<◌, ◌≤◌, ◌-◌, ◌≡◌, Bool, true, false, List, [], ◌∷◌, eqb, ltb, length, get_or}
use Rattle.std.specs.Prelude.{Option, Some, None, Result, Ok, Err}
use Rattle.signs.specs.Limits.{largest_number}
use Rattle.signs.specs.Signs.{Sign, nil_sign, top_sign, atom_sign, feature_sign, mark, sign_word}
use Rattle.signs.specs.declared.reading.ReadError.{ReadError}
use Rattle.signs.specs.declared.reading.ReadError.TheVariants.{Bad}
use Rattle.signs.specs.declared.machine.Due.{Due}
use Rattle.signs.specs.declared.machine.Due.TheVariants.{Operand, Colon, Path, Steps, Listed, After}
use Rattle.signs.specs.declared.machine.Part.{Part}
use Rattle.signs.specs.declared.machine.Part.TheVariants.{N, Ni, T, To, Atom, Arc, Step}
use Rattle.signs.specs.declared.machine.Place.{Place}
use Rattle.signs.specs.declared.machine.Place.TheVariants.{Start, Clean, Spaced, Number, Within}
use Rattle.signs.specs.declared.machine.Seen.{Seen}

abbrev pub if_so : {A : Type 0} → Bool → A → A → A
if_so true a b = a
if_so false a b = b

-- a formula can go on from this place, with so many groups open
abbrev pub seen_at : Place → ℕ → Option Seen
seen_at p g = Some (record { place = p; groups = g })

abbrev pub group_closed : ℕ → Option Seen
group_closed zero = None
group_closed (suc n) = seen_at (Clean After) n

-- a sign's first byte
unfoldable pub started : Due → ℕ → ℕ → Option Seen
started Operand g b = if_so (eqb b 78) (seen_at (Within N) g)
    (if_so (eqb b 84) (seen_at (Within T) g)
    (if_so (eqb b 97) (seen_at (Within Atom) g)
    (if_so (eqb b 102) (seen_at (Within Arc) g) (if_so (eqb b 91) (seen_at (Clean Path) g)
    (if_so (eqb b 40) (seen_at (Clean Operand) (g + 1)) None)))))
started Colon g b = if_so (eqb b 58) (seen_at (Clean Operand) g) None
started Path g b = if_so (eqb b 60) (seen_at (Clean Steps) g) None
started Steps g b = if_so (eqb b 102) (seen_at (Within Step) g) (if_so (eqb b 62) (seen_at (Clean Listed) g) None)
started Listed g b = if_so (eqb b 44) (seen_at (Clean Path) g) (if_so (eqb b 93) (seen_at (Clean After) g) None)
started After g b = if_so (eqb b 38) (seen_at (Clean Operand) g) (if_so (eqb b 124) (seen_at (Clean Operand) g)
    (if_so (eqb b 41) (group_closed g) None))

-- a space, or a sign's first byte
abbrev pub after_sign : Due → ℕ → ℕ → Option Seen
after_sign d g b = if_so (eqb b 32) (seen_at (Spaced d) g) (started d g b)

unfoldable pub digit_byte : ℕ → Bool
digit_byte b = if_so (ltb b 48) false (ltb b 58)

abbrev pub numeral : Due → ℕ → ℕ → Option Seen
numeral d g b = if_so (digit_byte b) (seen_at (Number d (b - 48)) g) None

abbrev pub longer : Due → ℕ → ℕ → ℕ → Option Seen
longer d v g b = if_so (eqb v 0) None (if_so (ltb largest_number (v * 10 + (b - 48))) None (seen_at (Number d (v * 10 + (b - 48))) g))

unfoldable pub within_sign : Part → ℕ → ℕ → Option Seen
within_sign N g b = if_so (eqb b 73) (seen_at (Within Ni) g) None
within_sign Ni g b = if_so (eqb b 76) (seen_at (Clean After) g) None
within_sign T g b = if_so (eqb b 79) (seen_at (Within To) g) None
within_sign To g b = if_so (eqb b 80) (seen_at (Clean After) g) None
within_sign Atom g b = numeral After g b
within_sign Arc g b = numeral Colon g b
within_sign Step g b = numeral Steps g b

unfoldable pub stepped : Place → ℕ → ℕ → Option Seen
stepped Start g b = started Operand g b
stepped (Clean d) g b = after_sign d g b
stepped (Spaced d) g b = after_sign d g b
stepped (Number d v) g b = if_so (digit_byte b) (longer d v g b) (after_sign d g b)
stepped (Within q) g b = within_sign q g b

-- a number's value at a place
abbrev pub Small : Place → Type 0
Small Start = Unit {0}
Small (Clean d) = Unit {0}
Small (Spaced d) = Unit {0}
Small (Number d v) = v ≤ largest_number
Small (Within q) = Unit {0}

-- a number is the last of so many signs
abbrev pub NumberLast : Place → ℕ → Type 0
NumberLast Start n = Unit {0}
NumberLast (Clean d) n = Unit {0}
NumberLast (Spaced d) n = Unit {0}
NumberLast (Number d v) n = 0 < n
NumberLast (Within q) n = Unit {0}

-- where a number's word goes
abbrev pub slot_of : Place → ℕ → ℕ
slot_of Start n = n
slot_of (Clean d) n = n
slot_of (Spaced d) n = n
slot_of (Number d v) n = n - 1
slot_of (Within q) n = n

-- the sign that a byte ends, and the sign of a number by what may follow it
abbrev pub ended_by : ℕ → Sign
ended_by b = if_so (eqb b 76) nil_sign (if_so (eqb b 80) top_sign (mark b))

abbrev pub number_sign : Due → ℕ → Sign
number_sign Operand v = feature_sign v
number_sign Colon v = feature_sign v
number_sign Path v = feature_sign v
number_sign Steps v = feature_sign v
number_sign Listed v = feature_sign v
number_sign After v = atom_sign v

abbrev pub others : List Sign → List Sign
others [] = []
others (s ∷ ss) = ss

-- the signs so far, the last one first: a number with one digit more takes the place of the number before
abbrev pub number_noted : Place → Sign → List Sign → List Sign
number_noted Start s ss = s ∷ ss
number_noted (Clean d) s ss = s ∷ ss
number_noted (Spaced d) s ss = s ∷ ss
number_noted (Number d v) s ss = s ∷ others ss
number_noted (Within q) s ss = s ∷ ss

abbrev pub noted : Place → Place → ℕ → List Sign → List Sign
noted p Start b ss = ss
noted p (Clean d) b ss = ended_by b ∷ ss
noted p (Spaced d) b ss = ss
noted p (Number d v) b ss = number_noted p (number_sign d v) ss
noted p (Within q) b ss = ss

-- the signs' words stand at the start of a list
abbrev pub SignsStand : List ℕ → List Sign → Type 0
SignsStand w [] = Unit {0}
SignsStand w (s ∷ ss) = (get_or w (length ss) 0 ≡ sign_word s) × SignsStand w ss

-- signs were changed, the words with them
abbrev pub SignsNoted : (List Sign → List Sign) → List ℕ → ℕ → List ℕ → ℕ → Type 0
SignsNoted f w n w' n' = (ss : List Sign) → SignsStand w ss → n ≡ length ss → SignsStand w' (f ss) × (n' ≡ length (f ss))

-- where the text ends
abbrev pub over_due : Due → ℕ → ℕ → ℕ → Result ℕ ReadError
over_due Operand g n i = Err (Bad i)
over_due Colon g n i = Err (Bad i)
over_due Path g n i = Err (Bad i)
over_due Steps g n i = Err (Bad i)
over_due Listed g n i = Err (Bad i)
over_due After g n i = if_so (eqb g 0) (Ok n) (Err (Bad i))

abbrev pub over : Place → ℕ → ℕ → ℕ → Result ℕ ReadError
over Start g n i = Err (Bad i)
over (Clean d) g n i = over_due d g n i
over (Spaced d) g n i = Err (Bad i)
over (Number d v) g n i = over_due d g n i
over (Within q) g n i = Err (Bad i)
