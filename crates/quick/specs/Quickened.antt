-- What the quick step asks, and what it does.
-- Assumes nothing: these are definitions.
use Rattle.std.specs.Prelude.{Option, Some, None, ℕ, ◌≡◌, List}
use Rattle.std.proofs.Math.Option.{none}
use Rattle.engine.specs.Marks.{all_kept}
use Rattle.engine.specs.Quickly.{quick_at, Leaves}
use Rattle.marks.specs.Marked.{marking}
use Rattle.entering.specs.Moved.{Moved}
use Rattle.entering.specs.Stage.{Pair, Stage}

-- two inputs stand loaded, what is certain in them is pushed, and nothing is dropped
pub record Quickening (n k : ℕ) (w : List ℕ) : Type 0 where
  pub t : List ℕ
  pub p : Pair n t
  pub stage : Stage n t p k w
  pub every : marking w ≡ all_kept

-- "1, quick": the marks leave what engine's `quick_at` leaves of the joined description, and what is certain then is pushed; or it
-- fails, and all that was pushed for it is taken back
pub record Quickens (n k : ℕ) (w : List ℕ) (r : Option ℕ) (w' : List ℕ) : Type 0 where
  pub standing : (k' : ℕ) → r ≡ Some k' →
      Moved k w k' w' × ((t : List ℕ) (p : Pair n t) → Stage n t p k w → marking w ≡ all_kept →
      Leaves p.j (marking w') × Stage n t p k' w')
  pub failing : r ≡ None → Moved k w k w'
      × ((t : List ℕ) (p : Pair n t) → Stage n t p k w → marking w ≡ all_kept → quick_at p.j ≡ none)
