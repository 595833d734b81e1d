-- A graph without its atoms.
-- Assumes nothing: these are definitions.
use Rattle.std.specs.Prelude.{[], ◌∷◌}
use Rattle.theory.specs.Net.{Node, atom, arcs, Graph}

-- a node without its atom
abbrev pub bared_node : Node → Node
bared_node (atom a) = arcs []
bared_node (arcs l) = arcs l

-- a graph without its atoms. "The classes are the least equivalence in which all roots are equal and equal nodes have equal targets under
-- an equal feature": no atom makes nodes equal, so its classes are complete where a clash would stop a join
abbrev pub bared : Graph → Graph
bared [] = []
bared (v ∷ vs) = bared_node v ∷ bared vs
