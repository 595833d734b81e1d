-- What looking for an alternative that stands alone tells.
-- Assumes nothing: these are definitions.
use Rattle.std.specs.Prelude.{ℕ, ◌≡◌, Bool, false, List, []}
use Rattle.engine.specs.Certain.{sure}
use Rattle.marks.specs.Readable.{Readable}
use Rattle.marks.specs.Marked.{marking}
use Rattle.showing.specs.Putting.{left_all}

-- where none is told, nothing beside the graph itself is certain
abbrev pub Looks : (w : List ℕ) (g : ℕ) → Bool → Type 0
Looks w g r = (left : ℕ) (c : Readable w g left) → r ≡ false → sure (left_all (marking w) c.lies.d) ≡ []
