-- Sending the nodes of a graph, one after the other.
-- Assumes nothing.
use Prim.Native.Nat.{ℕ, suc, ◌+◌, ◌-◌, ◌≤◌, ◌<◌}
use native.Mathlib.Omega.{arith}
use native.Mathlib.Nat.{sub-zero}
use native.Mathlib.Numerals.{add-one}
use mathlib.Core.Path.{◌≡◌, refl, sym, subst, ◌∙◌}
use mathlib.Core.Logic.{◌↔◌}
use mathlib.Core.List.{List, ◌∷◌}
use lib.ListN.{length, get_or}
use Rattle.theory.specs.Net.{Node, Graph, arcsOf, InOrder, met, Numbered, Canonical}
use Rattle.theory.proofs.Instance.{numbered_ge, numbered_target, met_ge, met_reach}
use Rattle.fit.specs.Parts.{node_limit, after_node, nodeFrom, nodesFrom, nodesEnd, graphIn}
use Rattle.fit.specs.Sending.{SentHere, SentAll, SameMaps, Turns, NoMap, GivenBelow, NodeAsked, NodesAsked, Walks, SentNodes}
use Rattle.std.specs.Prelude.{Option, Some, None}
use Rattle.graphs.specs.declared.graph.Walk.{Walk}
use Rattle.graphs.specs.Graph.{went}
use Rattle.fit.proofs.Parts.{nodes_step, nodes_none, nodes_length, nodes_few, end_step, end_none, end_far}
use Rattle.fit.proofs.Maps.{sent_arc}
use Rattle.fit.proofs.Steps.{comes_start, comes_on, comes_refused}

-- the nodes met are given nodes of the structure
low_after : (H : Graph) → Canonical H → (v : Node) (i : ℕ) (M : List ℕ) (k : ℕ) → InOrder k (arcsOf v) → GivenBelow (length H) M k →
    (M' : List ℕ) → Turns M k (λ m. SentHere H m i v) M' (met k (arcsOf v)) → GivenBelow (length H) M' (met k (arcsOf v))
low_after H c v i M k order low M' t =
    let b = t.back (λ j. get_or M' j 0) (λ j h. refl) tt in
    met_reach (λ j. get_or M' j 0 < length H) k (arcsOf v) order
    (λ j h. let z = b.0 j h in rw z (low j h))
    (λ f t e. omega (
      arith,
      numbered_target 0 1 H c (get_or M' i 0) f (get_or M' t 0)
          (sent_arc H (λ j. get_or M' j 0) v (get_or M' i 0) b.1.1 f t e),
    ))

module _ (s ws : List ℕ) (p nodes : ℕ) (L : List ℕ) where
  abbrev All : (ℕ → ℕ) → Type 0
  All m = SentAll (graphIn s 0) m 0 (nodesFrom ws p nodes)

  -- the nodes from i on stand from `at` on, and sending them sends all
  pub record Nodewise (i at : ℕ) (M : List ℕ) (k : ℕ) : Type 0 where
    pub part : i ≤ nodes
    pub few : nodes ≤ node_limit
    pub numbered : Numbered i k (nodesFrom ws at (nodes - i))
    pub ends : nodesEnd ws at (nodes - i) ≡ nodesEnd ws p nodes
    pub there : nodesEnd ws p nodes ≤ length ws
    pub low : GivenBelow (length (graphIn s 0)) M k
    pub comes : SameMaps L 1 All M k (λ m. SentAll (graphIn s 0) m i (nodesFrom ws at (nodes - i)))

  pub nodewise_start : NodesAsked s ws p nodes L → Nodewise 0 p L 1
  nodewise_start a = record {
    part = omega arith;
    few = omega (arith, a.few, a.there, nodes_few ws p nodes 0 1 a.canonical);
    numbered = rw sub-zero a.canonical;
    ends = rw sub-zero;
    there = a.there;
    low = a.root;
    comes = rw sub-zero (comes_start L 1 All);
  }

  module _ (i at : ℕ) (M : List ℕ) (k : ℕ) (a : Nodewise i at M k) where
    pub nodewise_end : nodes ≤ i → SentNodes (graphIn s 0) ws p nodes L (Some at)
    nodewise_end h =
        let z = nodes_none ws at nodes i h in
        let b = a.comes.back (λ j. get_or M j 0) (λ j h. refl) (rw z tt) in
        (sym (end_none ws at nodes i h) ∙ a.ends, ((λ j. get_or M j 0), b.0, b.1))

    module _ (some : i < nodes) where
      abbrev v : Node
      v = nodeFrom ws at

      abbrev vs : Graph
      vs = nodesFrom ws (after_node ws at) (nodes - (i + 1))

      split : nodesFrom ws at (nodes - i) ≡ v ∷ vs
      split = nodes_step ws at nodes i some

      numbers : Numbered i k (v ∷ vs)
      numbers = subst (Numbered i k) split a.numbered

      pub nodewise_next : NodeAsked s ws at i M k
      nodewise_next =
          let n = numbers in
          let known = n.0 in
          let most = numbered_ge (suc i) (met k (arcsOf v)) vs n.3 in
          let size = nodes_length ws (after_node ws at) (nodes - (i + 1)) in
          let far = met_ge k (arcsOf v) in
          record {
            there = omega (arith, a.there, a.ends, end_step ws at nodes i some, end_far ws (after_node ws at) (nodes - (i + 1)));
            known = known;
            most = omega (arith, a.few);
            low = a.low;
            rising = n.1;
            order = n.2;
            few = omega (arith, a.few);
          }

      same : (m : ℕ → ℕ) → SentAll (graphIn s 0) m i (nodesFrom ws at (nodes - i))
          ↔ (SentHere (graphIn s 0) m i v × SentAll (graphIn s 0) m (i + 1) vs)
      same m = rw split (subst (λ (j : ℕ). SentAll (graphIn s 0) m i (v ∷ vs)
          ↔ (SentHere (graphIn s 0) m i v × SentAll (graphIn s 0) m j vs)) (sym (add-one i)) (λ o. o, λ o. o))

      pub nodewise_stop : (M' : List ℕ) (r : Option Walk) → r ≡ None → Walks (graphIn s 0) ws at i M k M' r → NoMap L 1 All
      nodewise_stop M' r d n =
          comes_refused L 1 All M k (λ m. SentAll (graphIn s 0) m i (nodesFrom ws at (nodes - i))) a.comes
          (λ m g o. subst (Walks (graphIn s 0) ws at i M k M') d n m g ((same m).0 o).0)

      pub nodewise_step : Canonical (graphIn s 0) → (M' : List ℕ) (r : Option Walk) (q j : ℕ) → r ≡ went q j →
          Walks (graphIn s 0) ws at i M k M' r → Nodewise (i + 1) q M' j
      nodewise_step c M' r q j d walks =
          let w = subst (Walks (graphIn s 0) ws at i M k M') d walks in
          let n = numbers in
          let z = w.0 in
          let y = w.1 in
          let t : Turns M k (λ m. SentHere (graphIn s 0) m i v) M' (met k (arcsOf v)) = rw y at w.2 in
          rw (z, y) (record {
            part = omega arith;
            few = a.few;
            numbered = subst (λ (x : ℕ). Numbered x (met k (arcsOf v)) vs) (sym (add-one i)) n.3;
            ends = sym (end_step ws at nodes i some) ∙ a.ends;
            there = a.there;
            low = low_after (graphIn s 0) c v i M k n.2 a.low M' t;
            comes = comes_on L 1 All M k (λ m. SentAll (graphIn s 0) m i (nodesFrom ws at (nodes - i))) a.comes
                (λ m. SentHere (graphIn s 0) m i v) M' (met k (arcsOf v)) (λ m. SentAll (graphIn s 0) m (i + 1) vs) same t;
          })
