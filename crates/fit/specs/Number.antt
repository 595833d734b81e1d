-- Document 01's number of each answer of the fit test.
-- Assumes nothing: these are definitions.
use Rattle.std.specs.Prelude.{ℕ, Bool, true, false, Result, Ok, Err}
use Rattle.fit.specs.declared.Refusal.{Refusal}
use Rattle.fit.specs.declared.Refusal.TheVariants.{TooLong, BadStructure, BadDescription, HasDisjunctions}

abbrev pub Verdict : Type 0
Verdict = Result Bool Refusal

-- "3, 4 (structure), 5 (description) as above, then 9 if the structure has disjunctions, then 0 it satisfies, 6 it does not"
abbrev pub number_of : Verdict → ℕ
number_of (Ok true) = 0
number_of (Ok false) = 6
number_of (Err TooLong) = 3
number_of (Err BadStructure) = 4
number_of (Err BadDescription) = 5
number_of (Err HasDisjunctions) = 9
