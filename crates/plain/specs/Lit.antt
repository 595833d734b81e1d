-- What lighting the marks of all that a choice takes asks, and what it does.
-- Assumes nothing: these are definitions.
use Rattle.std.specs.Prelude.{ℕ, ◌+◌, ◌≤◌, ◌<◌, ◌≡◌, ◌⊎◌, true, ◌||◌, length, get_or}
use mathlib.Core.List.{List, Memᴰ}
use Rattle.area.specs.Map.{LOADED, MARKS, NODES, RESULT, SIZE}
use Rattle.layout.specs.Standing.{Stands}
use Rattle.modes_by_marks.specs.Search.{among}
use Rattle.marks.specs.Marked.{marking, lights}
use Rattle.marks.specs.Positions.{tail_at, mark_at}
use Rattle.choosing.specs.Ways.{Take, marks_of, words_of}

-- an alternative stands loaded at g, whose mark is x and which is kept
pub record KeptAt (w : List ℕ) (g x : ℕ) : Type 0 where
  pub here : g < LOADED
  pub inside : tail_at w g < LOADED
  pub mark : mark_at w g ≡ x
  pub kept : marking w x ≡ true

-- what is asked: the alternatives of a choice are listed from RESULT on
pub record Lighting (w : List ℕ) (many : ℕ) : Type 0 where
  pub room : SIZE ≤ length w
  pub few : many ≤ NODES
  pub ts : List Take
  pub stands : Stands w RESULT (words_of ts) (RESULT + many)
  pub each : (k : Take) → Memᴰ k ts → KeptAt w k.entry.at k.mark

-- all of them are found, and none is dropped
pub record Lights (w : List ℕ) (many : ℕ) (w' : List ℕ) : Type 0 where
  pub len : length w' ≡ length w
  pub rest : (j : ℕ) → (j < MARKS) ⊎ (RESULT ≤ j) → get_or w' j 0 ≡ get_or w j 0
  pub seen : (c : Lighting w many) (y : ℕ) → lights w' y ≡ (lights w y || among y (marks_of c.ts))
  pub marks : Lighting w many → marking w' ≡ marking w
