-- What the full step asks, and what it does: engine's full step, on the area.
-- Assumes nothing: these are definitions.
use Rattle.std.specs.Prelude.{Result, Ok, Err, ℕ, ◌≤◌, ◌≡◌, true, false, List, ltb, length, get_or}
use Rattle.std.proofs.Math.Option.{none, some}
use Rattle.theory.specs.Limits.{choice_limit, choice_stop}
use Rattle.theory.specs.Canonical.{Can}
use Rattle.area.specs.Map.{SIZE}
use Rattle.engine.specs.Placed.{Placed, strip}
use Rattle.engine.specs.Marks.{Marking, keep}
use Rattle.engine.specs.Quickly.{Leaves}
use Rattle.engine.specs.Counting.{count_at}
use Rattle.engine.specs.Search.{full_left, full_readings_by}
use Rattle.engine.specs.Sane.{Sane}
use Rattle.marks.specs.Marked.{marking, lights}
use Rattle.entering.specs.Stage.{Pair, Stage}
use Rattle.leaving.specs.declared.leave.Left.{Left}
use Rattle.leaving.specs.declared.leave.NoneLeft.{NoneLeft}
use Rattle.leaving.specs.declared.leave.NoneLeft.TheVariants.{TooMany, NoChoice}

-- the marks are those of the quick step, none of them found, and what is certain then is pushed
pub record Fulling (n k : ℕ) (w : List ℕ) : Type 0 where
  pub t : List ℕ
  pub p : Pair n t
  pub stage : Stage n t p k w
  pub dark : (y : ℕ) → lights w y ≡ false
  pub left : Leaves p.j (marking w)

-- "its result has over 4,096 choices", of what the marks m leave
abbrev pub too_many : Marking → Placed → Type 0
too_many m d = ltb choice_limit (count_at choice_stop m d) ≡ true

abbrev pub few_enough : Marking → Placed → Type 0
few_enough m d = ltb choice_limit (count_at choice_stop m d) ≡ false

-- "drop every alternative that stands in no consistent choice of the whole": the marks of w' leave what is left, which can be folded,
-- and what is certain in it is pushed
pub record Leaving (n : ℕ) (t : List ℕ) (p : Pair n t) (m : Marking) (log readings : ℕ) (w' : List ℕ) : Type 0 where
  pub readings_are : readings ≡ full_readings_by m p.j
  pub left_is : full_left m p.j ≡ some (strip (keep (marking w') p.j))
  pub stage : Stage n t p log w'
  pub can : Can (strip (keep (marking w') p.j))
  pub sane : Sane (strip (keep (marking w') p.j))

-- what is left, with so many entries in the log and so many readings
abbrev pub remaining : ℕ → ℕ → Left
remaining log readings = record { log = log; readings = readings }

pub record Fulls (n k : ℕ) (w : List ℕ) (r : Result Left NoneLeft) (w' : List ℕ) : Type 0 where
  pub len : length w' ≡ length w
  pub rest : (j : ℕ) → SIZE ≤ j → get_or w' j 0 ≡ get_or w j 0
  pub over : r ≡ Err TooMany → (c : Fulling n k w) → too_many (marking w) c.p.j
  pub nothing : r ≡ Err NoChoice → (c : Fulling n k w) → few_enough (marking w) c.p.j × (full_left (marking w) c.p.j ≡ none)
  pub leaves : (log readings : ℕ) → r ≡ Ok (remaining log readings) → (c : Fulling n k w) →
      few_enough (marking w) c.p.j × Leaving n c.t c.p (marking w) log readings w'
