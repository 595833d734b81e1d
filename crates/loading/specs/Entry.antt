-- A graph among the loaded words.
-- Assumes nothing: these are definitions.
use Rattle.std.specs.Prelude.{ℕ, List, [], ◌∷◌}
use Rattle.theory.specs.Net.{Graph}

-- the position of its header, the number of its node 0, and the graph
pub record Entry : Type 0 where
  pub at : ℕ
  pub number : ℕ
  pub graph : Graph

abbrev pub entry : ℕ → ℕ → Graph → Entry
entry p n g = record { at = p; number = n; graph = g }

abbrev pub graphs : List Entry → List Graph
graphs [] = []
graphs (e ∷ es) = e.graph ∷ graphs es
