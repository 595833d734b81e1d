-- What an engine that looks for the consistent choices asks, and what it finds.
-- Assumes nothing: these are definitions.
use Rattle.std.specs.Prelude.{ℕ, ◌≤◌, min, ◌≡◌, ◌||◌, List, length, get_or}
use Rattle.theory.specs.Limits.{choice_stop}
use Rattle.area.specs.Map.{SIZE}
use Rattle.engine.specs.Marks.{keep}
use Rattle.engine.specs.Search.{Found, lit}
use Rattle.engine.specs.Search as engine
use Rattle.loading.specs.Entry.{Entry}
use Rattle.marks.specs.Marked.{marking, lights}
use Rattle.classes.specs.Holds.{Holds, Since}
use Rattle.entering.specs.Stage.{Pair, Stage}

-- the choices f were found: they are counted, stopping at 4,097, and what they take is marked; what was pushed is as it was
pub record Finds (n k : ℕ) (w : List ℕ) (es : List Entry) (f : Found) (r : ℕ) (w' : List ℕ) : Type 0 where
  pub count : r ≡ min (length f) choice_stop
  pub seen : (y : ℕ) → lights w' y ≡ (lights w y || lit f y)
  pub marks : marking w' ≡ marking w
  pub holds : Holds n es k w'

-- both inputs stand loaded, and what is certain in them is pushed
pub record Searching (n k : ℕ) (w : List ℕ) : Type 0 where
  pub t : List ℕ
  pub p : Pair n t
  pub stage : Stage n t p k w

-- what is found is what engine's search finds in what the marks leave of the joined description
pub record Searches (n k : ℕ) (w : List ℕ) (r : ℕ) (w' : List ℕ) : Type 0 where
  pub len : length w' ≡ length w
  pub rest : (j : ℕ) → SIZE ≤ j → get_or w' j 0 ≡ get_or w j 0
  pub since : Since k w k w'
  pub found : (c : Searching n k w) → Finds n k w c.stage.es (engine.search (keep (marking w) c.p.j)) r w'
