-- What is printed for the text of a formula.
-- Assumes nothing: these are definitions.
use Rattle.std.specs.Prelude.{Ok, Err, Option, ℕ, ◌≡◌, List, [], ◌∷◌, ◌++◌, length, take}
use Rattle.theory.specs.Limits.{input_limit}
use Rattle.translate.specs.Row.{number_in, length_in}
use Rattle.translate.specs.Translated.{Translated}
use Rattle.translate.specs.Answer.{Answer}
use Rattle.translate.specs.declared.answer.Refusal.TheVariants.{BadText, TooDeep, Clash, TooLong, NoRoom, LongText}
use Rattle.answer_text.specs.Answer.{newline, answer_label, words_label, labelled, second_line, Wrote}

-- ` byte `
abbrev pub byte_label : List ℕ
byte_label = 32 ∷ 98 ∷ 121 ∷ 116 ∷ 101 ∷ 32 ∷ []

-- what is told after the number: "`answer 0 words 19`", "`answer 20 byte 7`"
abbrev pub after_number : Answer → List ℕ
after_number (Ok n) = labelled words_label n
after_number (Err (BadText i)) = labelled byte_label i
after_number (Err TooDeep) = []
after_number (Err Clash) = []
after_number (Err TooLong) = []
after_number (Err (NoRoom n)) = labelled words_label n
after_number (Err LongText) = []

-- the first line
unfoldable pub told_line : ℕ → Answer → List ℕ
told_line number r = labelled answer_label number ++ (after_number r ++ newline)

-- and after 0 a second line with the words
unfoldable pub formula_text : Answer → List ℕ → List ℕ
formula_text r words = told_line (number_in r) r ++ second_line (number_in r) words

-- what is printed for the text t: the text of the answer to it, where the result area has 1,024 words
pub record Prints (t text : List ℕ) : Type 0 where
  pub area : List ℕ
  pub size : length area ≡ input_limit
  pub answer : Answer
  pub result : List ℕ
  pub translated : Translated t area answer result
  pub is : text ≡ formula_text answer (take (length_in answer) result)

-- what is printed for the text t stands at the start of dst, or has no room there
pub record Replied (t dst dst' : List ℕ) (r : Option ℕ) : Type 0 where
  pub text : List ℕ
  pub prints : Prints t text
  pub wrote : Wrote text dst dst' r
