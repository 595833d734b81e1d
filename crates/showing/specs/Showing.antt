-- What putting out the whole asks, and what then stands in the result.
-- Assumes nothing: these are definitions.
use Rattle.std.specs.Prelude.{ℕ, ◌+◌, ◌≤◌, ◌≡◌, List, length, get_or}
use Rattle.theory.specs.Descr.{Desc}
use Rattle.theory.specs.Layout.{words}
use Rattle.theory.specs.Canonical.{Can}
use Rattle.area.specs.Map.{SECOND, RESULT, LONGEST}
use Rattle.layout.specs.Standing.{Stands}
use Rattle.engine.specs.Placed.{strip}
use Rattle.engine.specs.Marks.{keep}
use Rattle.engine.specs.Shown.{shown}
use Rattle.engine.specs.Sane.{Sane}
use Rattle.marks.specs.Positions.{tail_at, disjunctions_at}
use Rattle.marks.specs.Marked.{marking}
use Rattle.entering.specs.Stage.{Pair, Stage}

-- how many disjunctions the inputs have that stand loaded
abbrev pub disjunctions_in : List ℕ → ℕ
disjunctions_in w = disjunctions_at w (tail_at w 0) + disjunctions_at w (tail_at w SECOND)

-- what the marks leave of the joined description, folded
abbrev pub outcome : {n : ℕ} {t : List ℕ} → List ℕ → Pair n t → Desc
outcome w p = shown (strip (keep (marking w) p.j))

-- a mode stands between its steps, all that is certain in what is left agrees, at every depth, and there is room for it
pub record Showing (n k : ℕ) (w : List ℕ) : Type 0 where
  pub t : List ℕ
  pub p : Pair n t
  pub stage : Stage n t p k w
  pub can : Can (strip (keep (marking w) p.j))
  pub sane : Sane (strip (keep (marking w) p.j))
  pub room : length (words (outcome w p)) ≤ LONGEST

-- its words stand in the result from the start, and nothing after the result has changed
pub record Shows (n k : ℕ) (w : List ℕ) (r : ℕ) (w' : List ℕ) : Type 0 where
  pub len : length w' ≡ length w
  pub rest : (j : ℕ) → RESULT + LONGEST ≤ j → get_or w' j 0 ≡ get_or w j 0
  pub told : (c : Showing n k w) → (r ≡ length (words (outcome w c.p))) × Stands w' RESULT (words (outcome w c.p)) (RESULT + r)
