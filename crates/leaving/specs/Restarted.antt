-- What pushing all that is certain in both inputs asks, and what it does.
-- Assumes nothing: these are definitions.
use Rattle.std.specs.Prelude.{ℕ, ◌≤◌, ◌≡◌, List, ◌++◌, length, get_or}
use Rattle.theory.specs.Net.{Clash}
use Rattle.area.specs.Map.{WORDS, SIZE}
use Rattle.area.specs.Region.{loaded_words}
use Rattle.loading.specs.Entry.{Entry, graphs}
use Rattle.marks.specs.Marked.{marking}
use Rattle.engine.specs.Marks.{Marking}
use Rattle.classes.specs.Holds.{Holds, Undoable}
use Rattle.std.specs.Prelude.{Option, Some, None}
use Rattle.entering.specs.Taken.{taken_of}
use Rattle.entering.specs.Inputs.{Inputs}

-- both inputs stand loaded, and what is pushed can be taken back
pub record Restarting (n k : ℕ) (w : List ℕ) : Type 0 where
  pub room : SIZE ≤ length w
  pub t : List ℕ
  pub loaded : loaded_words w ≡ t
  pub inputs : Inputs n t
  pub undoable : Undoable n k w

-- all that is certain in both, where the marks are m
abbrev pub certain_both : {n : ℕ} {t : List ℕ} → Inputs n t → Marking → List Entry
certain_both {n} {t} i m = taken_of m i.first ++ taken_of m i.second

-- all of it is pushed and can be taken back, or it clashes
pub record Restarts (n k : ℕ) (w : List ℕ) (r : Option ℕ) (w' : List ℕ) : Type 0 where
  pub len : length w' ≡ length w
  pub rest : (j : ℕ) → WORDS ≤ j → get_or w' j 0 ≡ get_or w j 0
  pub pushed : (log : ℕ) → r ≡ Some log → (c : Restarting n k w) → Holds n (certain_both c.inputs (marking w)) log w'
      × Undoable n log w'
  pub clashed : r ≡ None → (c : Restarting n k w) → Clash (graphs (certain_both c.inputs (marking w)))
