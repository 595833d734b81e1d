-- What is answered to a formula's text.
-- Assumes nothing: these are definitions.
use Rattle.std.specs.Prelude.{ℕ, Result}
use Rattle.translate.specs.declared.answer.Refusal.{Refusal}

-- the words of the description are so many; or it is refused
abbrev pub Answer : Type 0
Answer = Result ℕ Refusal
