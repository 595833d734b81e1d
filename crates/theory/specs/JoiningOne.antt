-- Layout one under rule 0: its graphs, how they are joined, and the structures they speak of.
-- Assumes nothing: these are definitions.
use Rattle.std.proofs.Math.Option.{none, some}
use Rattle.std.specs.Prelude.{[], ◌∷◌, ℕ}
use Rattle.descriptions.specs.Joining.{Joining}
use Rattle.theory.specs.Net.{arcs, Graph}
use Rattle.theory.specs.Join.{join}
use Rattle.theory.specs.ClashNode.{ClashNode}
use Rattle.theory.specs.Located.{clash_node?}

-- the node where two graphs clash; 0 where they agree
abbrev pub clash_node : Graph → Graph → ℕ
clash_node g h = elim (clash_node? g h) [ none ↦ 0 | some i ↦ i ]

-- "the graph that says nothing" is one node without arcs
abbrev pub joining_one : Joining Graph
joining_one = record { join = join; nil = arcs [] ∷ []; ClashNode = ClashNode; clash_node = clash_node }
