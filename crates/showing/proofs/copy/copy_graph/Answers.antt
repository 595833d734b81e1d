-- `showing::copy::copy_graph` meets its contract: the node count, then the nodes.
-- Assumes nothing.
use Prim.Native.Nat.{ℕ, ◌%◌}
use native.Mathlib.Omega.{arith}
use mathlib.Core.Path.{ap, ◌∙◌}
use Rattle.packing.specs.Packed.{number_step}
use Rattle.showing.proofs.Copying.{graph_here, graph_asks, graph_copied}
use Rattle.showing.proofs.copy.copy_graph.Goals as goal

pub number_at-number-requires : goal.number_at-number-requires
number_at-number-requires c = let h = (graph_here _ _ _ c.requires).0 in omega arith

pub overflow_cast-number : goal.overflow_cast-number
overflow_cast-number c = let h = graph_here _ _ _ c.requires in let a = h.1 in let b = h.3 in
    omega arith

pub word_at-requires : goal.word_at-requires
word_at-requires c = let h = (graph_here _ _ _ c.requires).0 in
    omega arith

pub overflow_add-g : goal.overflow_add-g
overflow_add-g c = let h = (graph_here _ _ _ c.requires).0 in omega arith

pub copy_nodes-requires : goal.copy_nodes-requires
copy_nodes-requires c = let h = graph_here _ _ _ c.requires in
    graph_asks _ _ _ c.requires _ (c.nodes_of-count.ensures ∙ ap (λ (x : ℕ). x % number_step) c.word_at.ensures
    ∙ h.2) _ (c.number_at-number.ensures ∙ h.1)

pub returns : goal.returns
returns c = λ d. let h = graph_here _ _ _ d in
    graph_copied _ _ _ d _ (c.nodes_of-count.ensures
    ∙ ap (λ (x : ℕ). x % number_step) c.word_at.ensures
    ∙ h.2) _ (c.number_at-number.ensures
    ∙ h.1) _ _ c.copy_nodes.ensures
