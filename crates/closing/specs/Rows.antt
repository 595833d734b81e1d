-- The rows of a sheet in words.
-- Assumes nothing: these are definitions.
use Rattle.std.specs.Prelude.{List, [], ◌∷◌, ℕ, ◌/◌, ◌%◌}
use Rattle.theory.specs.Join.{Edge}
use Rattle.formulas.specs.Sheet.{Sheet}

-- spots are below it
abbrev pub spot_limit : ℕ
spot_limit = 2048

-- a row's spot, and what stands with it: a feature, an atom or the other spot
abbrev pub spot_of : ℕ → ℕ
spot_of row = row % spot_limit

abbrev pub spot_mark : ℕ → ℕ
spot_mark row = row / spot_limit

-- marks of words are below it
abbrev pub mark_limit : ℕ
mark_limit = 2097152

abbrev pub in_edges : List ℕ → List ℕ → List Edge
in_edges [] ends = []
in_edges (row ∷ arcs) [] = []
in_edges (row ∷ arcs) (end ∷ ends) = (spot_of row, spot_mark row, end) ∷ in_edges arcs ends

abbrev pub in_pairs : List ℕ → List (ℕ × ℕ)
in_pairs [] = []
in_pairs (row ∷ rows) = (spot_of row, spot_mark row) ∷ in_pairs rows

abbrev pub in_sheet : (arcs ends atoms ties : List ℕ) → Sheet
in_sheet arcs ends atoms ties = record { edges = in_edges arcs ends; atoms = in_pairs atoms; ties = in_pairs ties }
