-- What a pass over the disjunctions of both inputs asks, and what it does.
-- Assumes nothing: these are definitions.
use Rattle.std.specs.Prelude.{Option, Some, None, ℕ, ◌≡◌, List}
use Rattle.engine.specs.Marks.{Marking}
use Rattle.engine.specs.Quickly.{fails, stands, narrow_at}
use Rattle.loading.specs.Entry.{Entry, graphs}
use Rattle.marks.specs.Marked.{marking}
use Rattle.counting.specs.Counted.{inner_both}
use Rattle.classes.specs.Holds.{Holds}
use Rattle.quick.specs.declared.step.Step.{Step}
use Rattle.quick.specs.Stepped.{stepped, Fewer}
use Rattle.entering.specs.Moved.{Moved}
use Rattle.entering.specs.Inputs.{Inputs, Ready}

pub record Passing (n k : ℕ) (w : List ℕ) : Type 0 where
  pub t : List ℕ
  pub inputs : Inputs n t
  pub es : List Entry
  pub ready : Ready n t inputs k w es

pub record PassStands (n k : ℕ) (w : List ℕ) (k' : ℕ) (w' : List ℕ) (c : Passing n k w) : Type 0 where
  pub es' : List Entry
  pub ready' : Ready n c.t c.inputs k' w' es'
  pub is : narrow_at (graphs c.es) (marking w) (inner_both c.inputs.first.d c.inputs.second.d)
      ≡ stands (graphs es') (marking w')

-- "The disjunctions are those of the first input, then those of the second, in order.": engine's `narrow_at` on these
pub record Passes (n k : ℕ) (w : List ℕ) (r : Option Step) (w' : List ℕ) : Type 0 where
  pub standing : (k' i : ℕ) → r ≡ Some (stepped k' i) →
      Moved k w k' w' × Fewer i (marking w) (marking w') × ((c : Passing n k w) → PassStands n k w k' w' c)
  pub failing : r ≡ None → Moved k w k w'
      × ((c : Passing n k w) → Holds n c.es k w'
      × ((m : Marking) × (narrow_at (graphs c.es) (marking w) (inner_both c.inputs.first.d c.inputs.second.d) ≡ fails m)))
