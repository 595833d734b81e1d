-- The full step by marks: a search of the choices, depth first, on a stack of graphs.
-- Assumes nothing: these are definitions.
use Rattle.std.proofs.Math.Option.{Option}
use Rattle.std.specs.Prelude.{List, ℕ}
use Rattle.theory.specs.Net.{Graph}
use Rattle.theory.specs.Descr.{Desc}
use Rattle.engine.specs.Placed.{Placed, Options}
use Rattle.engine.specs.Marks.{Marking}
use Rattle.theory.specs.JoiningOne.{joining_one}
pub use Rattle.modes_by_marks.specs.Search.{Found, taking, lit}

abbrev pub dive : List Graph → Placed → (List Graph → Found) → Found
dive = Rattle.modes_by_marks.specs.Search.dive joining_one

abbrev pub dive_any : List Graph → Options → (List Graph → Found) → Found
dive_any = Rattle.modes_by_marks.specs.Search.dive_any joining_one

abbrev pub dive_each : List Graph → Options → (List Graph → Found) → Found
dive_each = Rattle.modes_by_marks.specs.Search.dive_each joining_one

abbrev pub search : Placed → Found
search = Rattle.modes_by_marks.specs.Search.search joining_one

abbrev pub full_readings_by : Marking → Placed → ℕ
full_readings_by = Rattle.modes_by_marks.specs.Search.full_readings_by joining_one

abbrev pub full_left : Marking → Placed → Option Desc
full_left = Rattle.modes_by_marks.specs.Search.full_left joining_one
