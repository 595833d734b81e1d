-- Both inputs stand loaded, and what is certain in them is pushed.
-- Assumes nothing: these are definitions.
use Rattle.std.specs.Prelude.{ℕ, ◌+◌, ◌≤◌, ◌≡◌, List}
use Rattle.theory.specs.Limits.{depth_limit}
use Rattle.modes_by_marks.specs.Names.{names}
use Rattle.area.specs.Map.{SECOND}
use Rattle.area.specs.Region.{loaded_words}
use Rattle.loading.specs.Entry.{Entry}
use Rattle.loading.specs.Numbered.{Between}
use Rattle.loading.specs.Lying.{Lying}
use Rattle.marks.specs.Marked.{marking}
use Rattle.classes.specs.Holds.{Holds}
use Rattle.entering.specs.Taken.{AmongOf, Inside}
use Rattle.entering.specs.Ground.{Ground}
use Rattle.entering.specs.Clear.{ClearOf}

-- both inputs stand loaded, the first before the second, and the marks of each are numbers of its nodes
pub record Inputs (n : ℕ) (t : List ℕ) : Type 0 where
  pub U : List Entry
  pub ground : Ground n t U
  pub first : Lying n t 0 depth_limit
  pub second : Lying n t SECOND depth_limit
  pub before : first.end ≤ SECOND
  pub apart : first.to ≤ second.from
  pub marks_first : Between (first.from + 1) first.to (names first.d)
  pub marks_second : Between (second.from + 1) second.to (names second.d)
  pub among_first : AmongOf U first
  pub among_second : AmongOf U second

-- the graphs es are pushed, among them what is certain in both
pub record Ready (n : ℕ) (t : List ℕ) (i : Inputs n t) (k : ℕ) (w : List ℕ) (es : List Entry) : Type 0 where
  pub loaded : loaded_words w ≡ t
  pub holds : Holds n es k w
  pub inside : Inside i.U es
  pub clear_first : ClearOf es (marking w) i.first
  pub clear_second : ClearOf es (marking w) i.second
