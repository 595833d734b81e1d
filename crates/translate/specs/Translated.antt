-- What comes of a formula's text: the numbers of request One, each by its rule.
-- Assumes nothing: these are definitions.
use Rattle.std.specs.Prelude.{Ok, Err, ℕ, ◌<◌, ◌≤◌, ◌≡◌, List, ◌++◌, length, drop}
use Rattle.std.proofs.Math.Option.{none, some}
use Rattle.theory.specs.Limits.{input_limit, depth_limit}
use Rattle.theory.specs.Descr.{Desc}
use Rattle.theory.specs.Layout.{words}
use Rattle.formulas.specs.Formula.{Formula, depth}
use Rattle.formulas.specs.Describe.{describe}
use Rattle.signs.specs.Limits.{formula_limit}
use Rattle.signs.specs.Grammar.{Reads, BadAt}
use Rattle.translate.specs.Answer.{Answer}
use Rattle.translate.specs.declared.answer.Refusal.TheVariants.{BadText, TooDeep, Clash, TooLong, NoRoom, LongText}

-- the text is that of φ, and neither 25 nor 20 nor 21 is due
pub record Shallow (t : List ℕ) (φ : Formula) : Type 0 where
  pub short : length t ≤ formula_limit
  pub reads : Reads t φ
  pub flat : depth φ ≤ depth_limit

-- and its description is d: 22 is not due
pub record Described (t : List ℕ) (φ : Formula) (d : Desc) : Type 0 where
  pub shallow : Shallow t φ
  pub is : describe φ ≡ some d

-- what is answered to the text t, and what stands in the result area, where `room` stood, afterwards: "25 text over 4,096 bytes, 20
-- bad text, with the first byte, from 0, at which no formula can go on, 21 over 4 disjunctions nested in the text, 22 formula is a
-- clash, 23 over 1,024 words, 24 result longer than the result area, in that order"
abbrev pub Translated : (t room : List ℕ) → Answer → List ℕ → Type 0
Translated t room (Err LongText) out = (formula_limit < length t) × (out ≡ room)
Translated t room (Err (BadText i)) out = (length t ≤ formula_limit) × BadAt t i × (out ≡ room)
Translated t room (Err TooDeep) out = (length t ≤ formula_limit) × ((φ : Formula) × Reads t φ × (depth_limit < depth φ)) × (out ≡ room)
Translated t room (Err Clash) out = ((φ : Formula) × Shallow t φ × (describe φ ≡ none)) × (out ≡ room)
Translated t room (Err TooLong) out = ((φ : Formula) × (d : Desc) × Described t φ d × (input_limit < length (words d))) × (out ≡ room)
Translated t room (Err (NoRoom n)) out =
    ((φ : Formula) × (d : Desc) × Described t φ d × (length (words d) ≤ input_limit) × (n ≡ length (words d))
    × (length room < n)) × (out ≡ room)
Translated t room (Ok n) out =
    (φ : Formula) × (d : Desc) × Described t φ d × (length (words d) ≤ input_limit) × (n ≡ length (words d))
    × (n ≤ length room) × (out ≡ words d ++ drop n room)
