-- Words that stand at a place among others.
-- Assumes nothing: these are definitions.
use Rattle.std.specs.Prelude.{ℕ, ◌+◌, ◌<◌, ◌≡◌, List, [], ◌∷◌, length, get_or}
use Rattle.theory.specs.Net.{Graph}
use Rattle.theory.specs.Descr.{Alts, alts}
use Rattle.theory.specs.Layout.{nodes_words, alts_words}

-- the words xs stand in ws from p up to q
unfoldable pub Stands : List ℕ → ℕ → List ℕ → ℕ → Type 0
Stands ws p [] q = p ≡ q
Stands ws p (x ∷ xs) q = (p < length ws) × (get_or ws p 0 ≡ x) × Stands ws (p + 1) xs q

-- "graph: node count (at least 1), then each node in order": the part of theory's `words` that a graph is
abbrev pub graph_words : Graph → List ℕ
graph_words g = length g ∷ nodes_words g

-- "each disjunction: number of alternatives (at least 2), then each alternative as a description": the part of theory's `words` that
-- one disjunction is
abbrev pub disjunction_words : Alts → List ℕ
disjunction_words a = alts a ∷ alts_words a
