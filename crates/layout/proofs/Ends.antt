-- A skip ends where what stands there ends.
-- Assumes nothing.
use Prim.Native.Nat.{ℕ, zero, suc, ◌+◌, ◌-◌, ◌≤◌, ◌<◌}
use native.Mathlib.Omega.{arith}
use mathlib.Core.Path.{◌≡◌, sym, ◌∙◌}
use mathlib.Core.List.{List, [], ◌∷◌}
use lib.ListN.{length}
use Rattle.theory.specs.Limits.{depth_limit}
use Rattle.theory.specs.Net.{Node, atom, arcs, Graph}
use Rattle.theory.specs.Descr.{Desc, desc, Disjs, end, ◌and◌, Alts, fail, ◌or◌, disjs, alts}
use Rattle.theory.specs.Layout.{arc_words, node_words, nodes_words, words, disjs_words, alts_words, NodeFits, GraphFits, WellFormed}
use Rattle.theory.specs.Layout.{WellAll, WellAny}
use Rattle.layout.specs.Standing.{Stands, graph_words}
use Rattle.layout.specs.Skipping.{ends, nodeEnd, graphEnd, disjunctionEnd, nestedEnd, descriptionEnd}
use Rattle.layout.proofs.Skips.{node_end_atom, node_end_arcs, ends_step, graph_end_nodes, nested_end_disjunctions}
use Rattle.layout.proofs.Skips.{disjunction_end_alternatives}
use Rattle.layout.proofs.Standing.{stands_nil, stands_atom, stands_node, stands_arcs, stands_within, stands_described, stands_graph}
use Rattle.layout.proofs.Standing.{stands_nodes, stands_description, stands_disjunctions, stands_disjunction, stands_alternatives}

module _ (ws : List ℕ) where
  -- one thing and then others
  more : (f : ℕ → ℕ) (k p q r : ℕ) → p < length ws → f p ≡ q → ends ws f k q ≡ r → ends ws f (suc k) p ≡ r
  more f k p q r h e g = ends_step ws f (suc k) k p q (omega arith) h (sym e) ∙ g

  node_there : (v : Node) (p q : ℕ) → Stands ws p (node_words v) q → p < length ws
  node_there (atom a) p q s = ((stands_atom ws a p q).0 s).0
  node_there (arcs l) p q s = ((stands_node ws l p q).0 s).0

  node_ends : (v : Node) (p q : ℕ) → NodeFits v → Stands ws p (node_words v) q → nodeEnd ws p ≡ q
  node_ends (atom a) p q f s =
      let t = (stands_atom ws a p q).0 s in
      let e = t.1 in
      sym (node_end_atom ws p t.0 (omega arith)) ∙ t.2
  node_ends (arcs l) p q f s =
      let t = (stands_node ws l p q).0 s in
      let e = t.1 in
      let there = t.0 in
      let far = stands_arcs ws l (p + 1) q t.2 in
      let room = stands_within ws (arc_words l) (p + 1) q (omega arith) t.2 in
      sym (node_end_arcs ws p there (omega (arith, f.0)) (omega arith)) ∙ omega arith

  nodes_end : (g : Graph) (p q : ℕ) → GraphFits g → Stands ws p (nodes_words g) q → ends ws (nodeEnd ws) (length g) p ≡ q
  unfolding ends
  nodes_end [] p q f s = (stands_nil ws p q).0 s
  nodes_end (v ∷ vs) p q f s =
      let t = (stands_nodes ws v vs p q).0 s in
      more (nodeEnd ws) (length vs) p t.0 q (node_there v p t.0 t.1) (node_ends v p t.0 f.0 t.1)
      (nodes_end vs t.0 q f.1 t.2)

  pub graph_ends : (g : Graph) (p q : ℕ) → GraphFits g → Stands ws p (graph_words g) q → graphEnd ws p ≡ q
  graph_ends g p q f s =
      let t = (stands_graph ws g p q).0 s in
      let e = t.1 in
      graph_end_nodes ws p t.0 ∙ rw e (nodes_end g (p + 1) q f t.2)

  mutual
    unfolding ends

    -- of a description with alternatives nested at most n deep
    pub nested_ends : (d : Desc) (n left p q : ℕ) → n ≤ left → WellFormed d n → Stands ws p (words d) q → nestedEnd left ws p ≡ q
    nested_ends (desc g ds) n left p q h k s =
        let t = (stands_description ws g ds p q).0 s in
        let e = t.3 in
        nested_end_disjunctions left ws p t.0 (sym (graph_ends g p t.0 k.1 t.1)) t.2
        ∙ rw e (disjunctions_end ds n left (t.0 + 1) q h k.2 t.4)

    disjunctions_end : (ds : Disjs) (n left p q : ℕ) → n ≤ left → WellAll ds n → Stands ws p (disjs_words ds) q →
        ends ws (disjunctionEnd left ws) (disjs ds) p ≡ q
    disjunctions_end end n left p q h k s = (stands_nil ws p q).0 s
    disjunctions_end (a and ds) zero left p q h k s = absurd k
    disjunctions_end (a and ds) (suc n) left p q h k s =
        let t = (stands_disjunctions ws a ds p q).0 s in
        let u = (stands_disjunction ws a p t.0).0 t.1 in
        let e = u.1 in
        let one : disjunctionEnd left ws p ≡ t.0 = disjunction_end_alternatives left ws p (omega arith) u.0
        ∙ rw e (alternatives_end a n (left - 1) (p + 1) t.0 (omega arith) k.1 u.2) in
        more (disjunctionEnd left ws) (disjs ds) p t.0 q u.0 one (disjunctions_end ds (suc n) left t.0 q h k.2 t.2)

    alternatives_end : (a : Alts) (n left p q : ℕ) → n ≤ left → WellAny a n → Stands ws p (alts_words a) q →
        ends ws (nestedEnd left ws) (alts a) p ≡ q
    alternatives_end fail n left p q h k s = (stands_nil ws p q).0 s
    alternatives_end (d or a) n left p q h k s =
        let t = (stands_alternatives ws d a p q).0 s in
        let there = stands_described ws d p t.0 t.1 in
        more (nestedEnd left ws) (alts a) p t.0 q (omega arith) (nested_ends d n left p t.0 h k.0 t.1)
        (alternatives_end a n left t.0 q h k.1 t.2)

  pub description_ends : (d : Desc) (n p q : ℕ) → n ≤ depth_limit → WellFormed d n → Stands ws p (words d) q → descriptionEnd ws p ≡ q
  description_ends d n p q h k s = nested_ends d n depth_limit p q h k s
