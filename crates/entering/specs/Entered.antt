-- What entering a description asks, and what it does: its graph and all that is certain in it are pushed.
-- Assumes nothing: these are definitions.
use Rattle.std.specs.Prelude.{ℕ, ◌≤◌, ◌≡◌, List, ◌++◌, length, get_or}
use Rattle.theory.specs.Net.{Clash}
use Rattle.area.specs.Map.{WORDS}
use Rattle.loading.specs.Entry.{Entry, graphs}
use Rattle.loading.specs.Lying.{Lying}
use Rattle.marks.specs.Marked.{marking}
use Rattle.classes.specs.Holds.{Holds, Since}
use Rattle.std.specs.Prelude.{Option, Some, None}
use Rattle.entering.specs.Taken.{taken_of, AmongOf, FreeOf}
use Rattle.entering.specs.Footing.{Footing}

-- a description stands loaded at g of which no graph is pushed
pub record Entering (n k : ℕ) (w : List ℕ) (g left : ℕ) : Type 0 where
  pub es : List Entry
  pub s : Footing n k w es
  pub lies : Lying n s.t g left
  pub among : AmongOf s.U lies
  pub free : FreeOf lies es

-- the graphs that are pushed after
abbrev pub entered : {n k : ℕ} {w : List ℕ} {g left : ℕ} → Entering n k w g left → List Entry
entered {n} {k} {w} {g} {left} c = c.es ++ taken_of (marking w) c.lies

-- all are pushed; or they clash, and all is as it was
pub record Enters (n k : ℕ) (w : List ℕ) (g left : ℕ) (r : Option ℕ) (w' : List ℕ) : Type 0 where
  pub len : length w' ≡ length w
  pub rest : (j : ℕ) → WORDS ≤ j → get_or w' j 0 ≡ get_or w j 0
  pub pushed : (k' : ℕ) → r ≡ Some k' → Since k w k' w' × ((c : Entering n k w g left) → Holds n (entered c) k' w')
  pub clashed : r ≡ None → Since k w k w' × ((c : Entering n k w g left) → Clash (graphs (entered c)) × Holds n c.es k w')
