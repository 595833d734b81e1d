-- The node where two graphs clash as a program, so that cases compute: labels closed under rules, then the first node whose label has a
-- clash. `clash_node? g h` is `some i` exactly when `ClashNode g h i`, and `none` exactly when the graphs agree (`located_iff`,
-- `agree_iff`).
-- Assumes nothing: these are definitions.
use Rattle.std.specs.Prelude.{Bool, true, false, List, [], ◌∷◌, ◌++◌, ℕ, zero, suc, ◌+◌, length, eqb, ltb}
use Rattle.std.proofs.Math.Option.{Option, none, some}
use Rattle.theory.specs.Net.{Graph, arcsOf}
use Rattle.theory.specs.Join.{Edge, Rule, edge_rules, labels, clashes, atom_list}

-- the arcs of node k, as many as lead to one of the n nodes of the graph, whose root has the number o: from, feature, to
abbrev pub inner_arcs : ℕ → ℕ → ℕ → List (ℕ × ℕ) → List Edge
inner_arcs o n k [] = []
inner_arcs o n k (p ∷ l) =
    elim (ltb p.1 n) [ true ↦ (o + k, p.0, o + p.1) ∷ inner_arcs o n k l | false ↦ inner_arcs o n k l ]

-- those of its nodes from node k on
abbrev pub inner_edges : ℕ → ℕ → ℕ → Graph → List Edge
inner_edges o n k [] = []
inner_edges o n k (v ∷ vs) = inner_arcs o n k (arcsOf v) ++ inner_edges o n (suc k) vs

-- "Put the nodes of all graphs side by side.": the first graph's nodes and then the second's
abbrev pub two_edges : Graph → Graph → List Edge
two_edges g h = inner_edges 0 (length g) 0 g ++ inner_edges (length g) (length h) 0 h

-- "all roots are equal", where both graphs have one
abbrev pub root_rules : Graph → Graph → List Rule
root_rules [] h = []
root_rules (v ∷ g) [] = []
root_rules (v ∷ g) (w ∷ h) = (0, 0, 0, length (v ∷ g)) ∷ []

-- "equal nodes have equal targets under an equal feature"
abbrev pub two_rules : Graph → Graph → List Rule
two_rules g h = root_rules g h ++ edge_rules (two_edges g h) (two_edges g h)

-- the atoms under the label of i: where they stand, and which
abbrev pub atoms_under : (ℕ → ℕ) → ℕ → List (ℕ × ℕ) → List (ℕ × ℕ)
atoms_under lab i [] = []
atoms_under lab i (p ∷ l) =
    elim (eqb (lab p.0) (lab i)) [ true ↦ p ∷ atoms_under lab i l | false ↦ atoms_under lab i l ]

-- "a class holds two different atoms, or an atom and an arc": the class that has the label of i
abbrev pub clashes_at : (ℕ → ℕ) → List (ℕ × ℕ) → List Edge → ℕ → Bool
clashes_at lab at es i = clashes lab (atoms_under lab i at) at es

-- the first of n numbers from k on that passes a test
abbrev pub first_from : (ℕ → Bool) → ℕ → ℕ → Option ℕ
first_from p k zero = none
first_from p k (suc n) = elim (p k) [ true ↦ some k | false ↦ first_from p (suc k) n ]

-- "the smallest node, counting the first graph's nodes and then the second's, whose class holds a clash"
unfoldable pub clash_node? : Graph → Graph → Option ℕ
clash_node? g h =
    let lab = labels (two_rules g h) in
    first_from (clashes_at lab (atom_list 0 (g ∷ h ∷ [])) (two_edges g h)) 0 (length g + length h)
