-- What settling a disjunction asks once its alternatives were tried, and what it does.
-- Assumes nothing: these are definitions.
use Rattle.std.specs.Prelude.{ℕ, ◌≤◌, ◌≡◌, List, ◌++◌, length, get_or}
use Rattle.area.specs.Map.{WORDS}
use Rattle.engine.specs.Quickly.{fails, stands, settle_at}
use Rattle.loading.specs.Entry.{Entry, graphs}
use Rattle.loading.specs.Lying.{LyingAny}
use Rattle.marks.specs.Marked.{marking}
use Rattle.classes.specs.Holds.{Holds, Since}
use Rattle.std.specs.Prelude.{Option, Some, None}
use Rattle.entering.specs.Taken.{taken_any_of, AmongAnyOf, FreeAnyOf}
use Rattle.entering.specs.Footing.{Footing}

-- `count` alternatives stand loaded from p on of which no graph is pushed
pub record Alternating (n k : ℕ) (w : List ℕ) (p count left : ℕ) : Type 0 where
  pub es : List Entry
  pub s : Footing n k w es
  pub lies : LyingAny n s.t p count left
  pub among : AmongAnyOf s.U lies
  pub free : FreeAnyOf lies es

-- the graphs that are pushed after
abbrev pub settled : {n k : ℕ} {w : List ℕ} {p count left : ℕ} → Alternating n k w p count left → List Entry
settled {n} {k} {w} {p} {count} {left} c = c.es ++ taken_any_of (marking w) c.lies

-- "A disjunction with none left fails the description. One with exactly one left is folded": engine's `settle_at`
pub record Settles (n k : ℕ) (w : List ℕ) (p count left : ℕ) (r : Option ℕ) (w' : List ℕ) : Type 0 where
  pub len : length w' ≡ length w
  pub rest : (j : ℕ) → WORDS ≤ j → get_or w' j 0 ≡ get_or w j 0
  pub pushed : (k' : ℕ) → r ≡ Some k' → Since k w k' w'
      × ((c : Alternating n k w p count left) →
      Holds n (settled c) k' w' × (settle_at (graphs c.es) (marking w) c.lies.a ≡ stands (graphs (settled c)) (marking w)))
  pub clashed : r ≡ None → Since k w k w'
      × ((c : Alternating n k w p count left) → Holds n c.es k w'
      × (settle_at (graphs c.es) (marking w) c.lies.a ≡ fails (marking w)))
