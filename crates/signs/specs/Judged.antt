-- What reading a text answers.
-- Assumes nothing: these are definitions.
use Rattle.std.specs.Prelude.{ℕ, ◌<◌, ◌≤◌, ◌≡◌, List, length, take, Result, Ok, Err}
use Rattle.formulas.specs.Formula.{Formula}
use Rattle.signs.specs.Limits.{formula_limit}
use Rattle.signs.specs.Signs.{Sign, Spelt, sign_words}
use Rattle.signs.specs.Grammar.{Whole, BadAt}
use Rattle.signs.specs.declared.reading.ReadError.{ReadError}
use Rattle.signs.specs.declared.reading.ReadError.TheVariants.{Bad, Long}

-- the text's signs are the first n words, and some formula has this text
pub record Good (t w : List ℕ) (n : ℕ) : Type 0 where
  pub signs : List Sign
  pub tree : Formula
  pub spelt : Spelt signs t
  pub formula : Whole signs tree
  pub count : n ≡ length signs
  pub few : n ≤ length t
  pub written : take n w ≡ sign_words signs

-- "25 text over 4,096 bytes, 20 bad text, with the first byte, from 0, at which no formula can go on"
abbrev pub SignsJudged : List ℕ → List ℕ → Result ℕ ReadError → Type 0
SignsJudged t w (Ok n) = (length t ≤ formula_limit) × Good t w n
SignsJudged t w (Err (Bad i)) = (length t ≤ formula_limit) × BadAt t i
SignsJudged t w (Err Long) = formula_limit < length t
