-- What drawing a sheet asks and promises.
-- Assumes nothing: these are definitions.
use Rattle.std.specs.Prelude.{◌≡◌, List, Result, Ok, Err, ℕ, ◌<◌, length, take}
use Rattle.std.proofs.Math.Option.{none, some}
use Rattle.theory.specs.Net.{Graph}
use Rattle.layout.specs.Standing.{graph_words}
use Rattle.formulas.specs.Sheet.{Sheet, Sound, sheet_graph}
use Rattle.closing.specs.Rows.{in_sheet}
use Rattle.closing.specs.Chains.{Arcs}
use Rattle.sheets.specs.declared.drawing.Undrawn.{Undrawn}
use Rattle.sheets.specs.declared.drawing.Undrawn.TheVariants.{Clash, Long}

-- as many ends as arcs, few enough, all below the limit; and a sound sheet
pub record Drawing (arcs ends atoms ties : List ℕ) : Type 0 where
  pub rows : Arcs arcs ends
  pub sound : Sound (in_sheet arcs ends atoms ties)

-- a clash, or the words of the sheet's graph, if there is room for them
abbrev pub DrawnAs : Sheet → List ℕ → List ℕ → Result ℕ Undrawn → Type 0
DrawnAs A out out' (Err Clash) = sheet_graph A ≡ none
DrawnAs A out out' (Err Long) = (G : Graph) × (sheet_graph A ≡ some G) × (length out < length (graph_words G))
DrawnAs A out out' (Ok n) = (G : Graph) × (sheet_graph A ≡ some G) × (n ≡ length (graph_words G))
    × (take n out' ≡ graph_words G)

pub record Draws (arcs ends atoms ties out : List ℕ) (r : Result ℕ Undrawn) (out' : List ℕ) : Type 0 where
  pub len : length out' ≡ length out
  pub answer : DrawnAs (in_sheet arcs ends atoms ties) out out' r
