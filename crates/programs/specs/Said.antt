-- What a program says, in its area and in its output. Assumes nothing: these are definitions.
use Rattle.std.specs.Prelude.{ℕ, ◌≡◌, ◌≤◌, List, [], length, take, drop, Option, Some, None}
use Rattle.std.specs.Io.KnownBytes.{Appends}

-- the first n bytes of the area are something that may be said
pub record Answered (Says : List ℕ → Type 0) (n : ℕ) (area : List ℕ) : Type 0 where
  pub inside : n ≤ length area
  pub said : Says (take n area)

-- so many bytes of the area are something that may be said; or there is no room, and nothing may be said too
abbrev pub Answers : (List ℕ → Type 0) → Option ℕ → List ℕ → Type 0
Answers Says (Some n) area = Answered Says n area
Answers Says None area = Says []

-- the first n bytes of the area are something that may be said, and what stands behind them is as it was
pub record AnsweredExactly (Says : List ℕ → Type 0) (old : List ℕ) (n : ℕ) (new : List ℕ) : Type 0 where
  pub inside : n ≤ length new
  pub said : Says (take n new)
  pub behind : drop n new ≡ drop n old

-- so many bytes of the area are something that may be said; or there is no room, and whatever is said may be
abbrev pub AnswersExactly : (List ℕ → Type 0) → List ℕ → Option ℕ → List ℕ → Type 0
AnswersExactly Says old (Some n) new = AnsweredExactly Says old n new
AnswersExactly Says old None new = (said : List ℕ) → Says said

-- the output grows by something that may be said
abbrev pub Prints : (List ℕ → Type 0) → Option (List ℕ) → Option (List ℕ) → Type 0
Prints Says old new = (said : List ℕ) × Says said × Appends old new said
