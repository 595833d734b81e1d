-- Where a step stands: some graphs are pushed, over words that are loaded.
-- Assumes nothing: these are definitions.
use Rattle.std.specs.Prelude.{ℕ, ◌≡◌, List}
use Rattle.area.specs.Region.{loaded_words}
use Rattle.engine.specs.Marks.{Marking}
use Rattle.loading.specs.Entry.{Entry}
use Rattle.marks.specs.Marked.{marking}
use Rattle.classes.specs.Holds.{Holds}
use Rattle.entering.specs.Taken.{Inside}
use Rattle.entering.specs.Ground.{Ground}

-- the words t are loaded, in which the graphs U lie, the marks are m, and the graphs es, all of U, are pushed
pub record Footing (n k : ℕ) (w : List ℕ) (es : List Entry) : Type 0 where
  pub t : List ℕ
  pub loaded : loaded_words w ≡ t
  pub m : Marking
  pub marks : marking w ≡ m
  pub U : List Entry
  pub ground : Ground n t U
  pub holds : Holds n es k w
  pub inside : Inside U es
