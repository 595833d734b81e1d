-- What the expansion to every choice asks beside what an engine asks.
-- Assumes nothing: these are definitions.
use Rattle.std.specs.Prelude.{ℕ, ◌≤◌, ◌≡◌, List}
use Rattle.theory.specs.Limits.{choice_limit}
use Rattle.marks.specs.Marked.{marking}
use Rattle.leaving.specs.Found.{Searching}
use Rattle.choosing.specs.Ways.{number_both}

-- the marks leave `total` choices of both inputs, which are not too many
pub record Expanding (n k : ℕ) (w : List ℕ) (total : ℕ) : Type 0 where
  pub searching : Searching n k w
  pub few : total ≤ choice_limit
  pub all : (c : Searching n k w) → number_both c.p.inputs (marking w) ≡ total
