-- The answer of a call, and what a mode made.
-- Assumes nothing: these are definitions.
use Rattle.std.specs.Prelude.{ℕ, Result, Ok}
use Rattle.answering.specs.declared.answer.Unified.{Unified}
use Rattle.answering.specs.declared.answer.Refusal.{Refusal}
use Rattle.answering.specs.declared.hand.Failure.{Failure}

abbrev pub Answer : Type 0
Answer = Result Unified Refusal

abbrev pub Made : Type 0
Made = Result Unified Failure

-- a result of n words, with r readings
abbrev pub done : {E : Type 0} → ℕ → ℕ → Result Unified E
done n r = Ok (record { length = n; readings = r })
