-- Where a mode stands between its steps: two inputs are loaded, marks leave some alternatives of their joined description, and what is
-- certain then is pushed.
-- Assumes nothing: these are definitions.
use Rattle.std.specs.Prelude.{ℕ, ◌≤◌, ◌≡◌, List, length}
use Rattle.std.proofs.Math.Option.{some}
use Rattle.theory.specs.Limits.{input_limit, depth_limit}
use Rattle.theory.specs.Descr.{Desc}
use Rattle.theory.specs.Layout.{words, WellFormed}
use Rattle.engine.specs.Placed.{Placed, strip}
use Rattle.engine.specs.Marks.{keep}
use Rattle.engine.specs.Certain.{flat}
use Rattle.engine.specs.Beside.{joined_placed}
use Rattle.engine.specs.Stack.{Equivalent}
use Rattle.loading.specs.Entry.{Entry, graphs}
use Rattle.loading.specs.Loaded.{nodes_in}
use Rattle.loading.specs.Numbered.{input_numbered}
use Rattle.marks.specs.Marked.{marking}
use Rattle.classes.specs.Holds.{Undoable}
use Rattle.entering.specs.Inputs.{Inputs, Ready}

-- two inputs that stand loaded in t and whose definite graphs join
pub record Pair (n : ℕ) (t : List ℕ) : Type 0 where
  pub d : Desc
  pub e : Desc
  pub first_well : WellFormed d depth_limit
  pub second_well : WellFormed e depth_limit
  pub first_few : length (words d) ≤ input_limit
  pub second_few : length (words e) ≤ input_limit
  pub inputs : Inputs n t
  pub first_is : inputs.first.d ≡ input_numbered 0 d
  pub second_is : inputs.second.d ≡ input_numbered (nodes_in d) e
  pub j : Placed
  pub joined : joined_placed inputs.first.d inputs.second.d ≡ some j

-- the graphs es are pushed and can be taken back, and they say what is certain in what the marks leave of the joined description
pub record Stage (n : ℕ) (t : List ℕ) (p : Pair n t) (k : ℕ) (w : List ℕ) : Type 0 where
  pub es : List Entry
  pub ready : Ready n t p.inputs k w es
  pub undoable : Undoable n k w
  pub same : Equivalent (graphs es) (flat (strip (keep (marking w) p.j)))
