-- The nodes that words at a position are, where they are nodes.
-- Assumes nothing: these are definitions.
use Rattle.std.specs.Prelude.{ℕ, zero, suc, ◌+◌, ◌-◌, ◌*◌, List, [], ◌∷◌, get_or, ltb}
use Rattle.theory.specs.Limits.{code_limit}
use Rattle.theory.specs.Net.{Node, atom, arcs, Graph}
use Rattle.graphs.specs.Graph.{pick}

-- no graph in an input has more nodes: each but the root has an arc to it, and takes three words
abbrev pub node_limit : ℕ
node_limit = 342

-- "Head 0..65,535 is the number of arcs; head 65,536..131,071 is the atom numbered head - 65,536, with no arcs."
unfoldable pub arcs_in : ℕ → ℕ
arcs_in h = pick (ltb h code_limit) h 0

-- the position after the node at p
abbrev pub after_node : List ℕ → ℕ → ℕ
after_node ws p = p + 1 + 2 * arcs_in (get_or ws p 0)

-- "An arc is two words: feature 0..65,535, target node.": k arcs
unfoldable pub arcsOfWords : List ℕ → ℕ → ℕ → List (ℕ × ℕ)
arcsOfWords ws p zero = []
arcsOfWords ws p (suc k) = (get_or ws p 0, get_or ws (p + 1) 0) ∷ arcsOfWords ws (p + 2) k

-- the k arcs that end at e
abbrev pub lastArcs : List ℕ → ℕ → ℕ → List (ℕ × ℕ)
lastArcs ws e k = arcsOfWords ws (e - 2 * k) k

-- "a head, then its arcs"
unfoldable pub nodeFrom : List ℕ → ℕ → Node
nodeFrom ws p = pick (ltb (get_or ws p 0) code_limit) (arcs (arcsOfWords ws (p + 1) (get_or ws p 0))) (atom (get_or ws p 0 - code_limit))

-- "then each node in order": k nodes, and the position after them
unfoldable pub nodesFrom : List ℕ → ℕ → ℕ → Graph
nodesFrom ws p zero = []
nodesFrom ws p (suc k) = nodeFrom ws p ∷ nodesFrom ws (after_node ws p) k

unfoldable pub nodesEnd : List ℕ → ℕ → ℕ → ℕ
nodesEnd ws p zero = p
nodesEnd ws p (suc k) = nodesEnd ws (after_node ws p) k

-- "graph: node count (at least 1), then each node in order"
abbrev pub graphIn : List ℕ → ℕ → Graph
graphIn ws p = nodesFrom ws (p + 1) (get_or ws p 0)
