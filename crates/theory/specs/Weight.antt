-- How many words the nodes of a graph take, and those of several graphs.
-- Assumes nothing: these are definitions.
use Rattle.std.specs.Prelude.{List, [], ◌∷◌, ℕ, ◌+◌, length}
use Rattle.theory.specs.Net.{Graph}
use Rattle.theory.specs.Layout.{nodes_words}

unfoldable pub weight : Graph → ℕ
weight g = length (nodes_words g)

abbrev pub weights : List Graph → ℕ
weights [] = 0
weights (g ∷ gs) = weight g + weights gs
