-- What keeping only what was found asks, and what it does.
-- Assumes nothing: these are definitions.
use Rattle.std.specs.Prelude.{Result, ℕ, ◌≤◌, ◌≡◌, List, length}
use Rattle.theory.specs.Limits.{depth_limit, choice_limit}
use Rattle.counting.specs.Counted.{CountedBoth}
use Rattle.leaving.specs.Found.{Searches}
use Rattle.leaving.specs.Fulled.{Fulling, Fulls}
use Rattle.leaving.specs.declared.leave.Left.{Left}
use Rattle.leaving.specs.declared.leave.NoneLeft.{NoneLeft}

-- from the area w, whose choices are not too many, an engine came to w₁ with as many readings
pub record Ended (n k : ℕ) (w w₁ : List ℕ) (readings : ℕ) : Type 0 where
  pub count : ℕ
  pub counted : CountedBoth w depth_limit count
  pub few : count ≤ choice_limit
  pub searches : Searches n k w readings w₁

pub record Keeping (n k : ℕ) (w₁ : List ℕ) (readings : ℕ) : Type 0 where
  pub w : List ℕ
  pub fulling : Fulling n k w
  pub ended : Ended n k w w₁ readings

-- the answer is that of the full step, from wherever the engine came
pub record Keeps (n k : ℕ) (w₁ : List ℕ) (readings : ℕ) (r : Result Left NoneLeft) (w' : List ℕ) : Type 0 where
  pub len : length w' ≡ length w₁
  pub told : (w : List ℕ) → Ended n k w w₁ readings → Fulls n k w r w'
