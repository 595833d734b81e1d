-- The quick step by marks: "1, quick" with alternatives dropped and none folded. Of a stack of graphs one thing is asked, whether they
-- agree.
-- Assumes nothing: these are definitions.
use Rattle.std.proofs.Math.Option.{Option}
use Rattle.std.specs.Prelude.{List, ℕ}
use Rattle.theory.specs.Net.{Graph}
use Rattle.engine.specs.Placed.{Placed, Places, Options}
use Rattle.engine.specs.Marks.{Marking}
use Rattle.theory.specs.JoiningOne.{joining_one}
pub use Rattle.modes_by_marks.specs.Quickly.{fails, stands, tried}

abbrev pub Step : Type 0
Step = Rattle.modes_by_marks.specs.Quickly.Step Graph

abbrev pub settle_at : List Graph → Marking → Options → Step
settle_at = Rattle.modes_by_marks.specs.Quickly.settle_at joining_one

abbrev pub try_at : List Graph → Marking → Placed → Step
try_at = Rattle.modes_by_marks.specs.Quickly.try_at joining_one

abbrev pub narrow_at : List Graph → Marking → Places → Step
narrow_at = Rattle.modes_by_marks.specs.Quickly.narrow_at joining_one

abbrev pub any_at : List Graph → Marking → Options → Step
any_at = Rattle.modes_by_marks.specs.Quickly.any_at joining_one

abbrev pub inside_at : List Graph → Marking → Placed → Step
inside_at = Rattle.modes_by_marks.specs.Quickly.inside_at joining_one

abbrev pub sift_at : List Graph → Marking → Options → Marking
sift_at = Rattle.modes_by_marks.specs.Quickly.sift_at joining_one

abbrev pub passes_at : ℕ → Marking → Placed → Option Marking
passes_at = Rattle.modes_by_marks.specs.Quickly.passes_at joining_one

abbrev pub quick_at : Placed → Option Marking
quick_at = Rattle.modes_by_marks.specs.Quickly.quick_at joining_one

abbrev pub Leaves : Placed → Marking → Type 0
Leaves = Rattle.modes_by_marks.specs.Quickly.Leaves joining_one
