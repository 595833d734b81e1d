-- What comes of a formula's text, by the numbers that are told of it.
-- Assumes nothing: these are definitions.
use Rattle.std.specs.Prelude.{ℕ, ◌≡◌, List}
use Rattle.translate.specs.Row.{number_in, length_in, byte_in}
use Rattle.translate.specs.Translated.{Translated}
use Rattle.translate.specs.Answer.{Answer}

-- number, length and byte are those of the answer to the text t, which leaves `out` where `room` stood
pub record Answered (t room : List ℕ) (number extent byte : ℕ) (out : List ℕ) : Type 0 where
  pub answer : Answer
  pub translated : Translated t room answer out
  pub the_number : number ≡ number_in answer
  pub the_extent : extent ≡ length_in answer
  pub the_byte : byte ≡ byte_in answer
