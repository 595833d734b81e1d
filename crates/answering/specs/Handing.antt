-- How what a mode made is handed over.
-- Assumes nothing: these are definitions.
use Rattle.std.specs.Prelude.{ℕ, ◌+◌, ◌≤◌, ◌<◌, ◌≡◌, ◌⊎◌, List, ◌++◌, length, drop, Ok, Err}
use Rattle.area.specs.Map.{RESULT}
use Rattle.area.specs.Region.{region}
use Rattle.answering.specs.declared.hand.Failure.{Failure}
use Rattle.answering.specs.declared.hand.Failure.TheVariants as failure
use Rattle.answering.specs.declared.answer.Refusal.{Refusal}
use Rattle.answering.specs.declared.answer.Refusal.TheVariants.{Clash, TooMany, NoRoom, QuickFails, NoChoice}
use Rattle.answering.specs.Answer.{Answer, Made}

-- the result lies inside the working area
abbrev pub ResultInside : List ℕ → Made → Type 0
ResultInside w (Ok u) = RESULT + u.length ≤ length w
ResultInside w (Err f) = Unit {0}

-- each clash by its own number
abbrev pub refusal_of : Failure → Refusal
refusal_of (failure.Clash i) = Clash i
refusal_of failure.QuickFails = QuickFails
refusal_of failure.TooMany = TooMany
refusal_of failure.NoChoice = NoChoice

-- "8 | result longer than the result area"
-- "Result area: only number 0 writes, the first so many words; the rest stays."
abbrev pub Handed : List ℕ → List ℕ → Made → Answer → List ℕ → Type 0
Handed w s (Err f) r s' = (r ≡ Err (refusal_of f)) × (s' ≡ s)
Handed w s (Ok u) r s' =
    ((length s < u.length) × (r ≡ Err (NoRoom u.length)) × (s' ≡ s))
    ⊎ ((u.length ≤ length s) × (r ≡ Ok u) × (s' ≡ region RESULT u.length w ++ drop u.length s))
