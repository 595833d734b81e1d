-- The words of a well-formed description are read as one, to their end.
-- Assumes nothing.
use Prim.Native.Nat.{ℕ, zero, suc, ◌+◌, ◌≤◌, ◌<◌, max}
use native.Mathlib.Omega.{arith}
use native.Mathlib.Decide.{dec_lt}
use native.Mathlib.Numerals.{sub-one, add-one}
use mathlib.Core.Path.{◌≡◌, sym, ap, ◌∙◌}
use mathlib.Core.List.{List, [], ◌∷◌}
use lib.ListN.{length, get_or}
use Rattle.theory.specs.Limits.{code_limit}
use Rattle.theory.specs.Net.{Node, atom, arcs, Graph, arcsOf, met, Rising, InOrder, Numbered, Canonical}
use Rattle.theory.specs.Descr.{Desc, desc, Disjs, end, ◌and◌, Alts, fail, ◌or◌, disjs, alts}
use Rattle.theory.specs.Layout.{arc_words, node_words, nodes_words, words, disjs_words, alts_words, ArcsFit, NodeFits, GraphFits}
use Rattle.theory.specs.Layout.{WellFormed, WellAll, WellAny}
use Rattle.theory.proofs.Instance.{met_ge, numbered_ge}
use Rattle.std.specs.Prelude.{Some}
use Rattle.layout.specs.Reading.{times, readDisjunction, readDescription}
use Rattle.graphs.specs.Graph.{went, readArc, arcsFrom, read_node, readNodes, readGraph}
use Rattle.layout.specs.Standing.{Stands, graph_words}
use Rattle.layout.proofs.Laws.{description_times, disjunction_times}
use Rattle.graphs.proofs.Laws.{arc_met, arc_next, arcs_there, node_arcs, node_atom, graph_nodes}
use Rattle.layout.proofs.Standing.{stands_nil, stands_atom, stands_node, stands_arc, stands_arcs, stands_within, stands_graph}
use Rattle.layout.proofs.Standing.{stands_nodes, stands_description, stands_disjunctions, stands_disjunction, stands_alternatives}

arc_complete : (n low m f t : ℕ) → low ≤ f → f < code_limit → t ≤ m → max m (suc t) ≤ n → readArc n low m f t ≡ Some (max m (suc t))
arc_complete n low m f t h k l c = go (dec_lt t m)
  where
    go : Dec (t < m) → readArc n low m f t ≡ Some (max m (suc t))
    go (yes x) = let e : m ≡ max m (suc t) = omega arith in sym (arc_met n low m f t h k x) ∙ ap Some e
    go (no x) = let e : t + 1 ≡ max m (suc t) = omega arith in sym (arc_next n low m f t h k (omega arith) l (omega arith)) ∙ ap Some e

module _ (ws : List ℕ) where
  arcs_complete : (n low m p q : ℕ) (l : List (ℕ × ℕ)) → Rising low l → InOrder m l → ArcsFit l → met m l ≤ n → Stands ws p (arc_words l) q
      → arcsFrom ws n (length l) low m p ≡ went q (met m l)
  unfolding arcsFrom
  arcs_complete n low m p q [] r o f c s = rw ((stands_nil ws p q).0 s)
  arcs_complete n low m p q (e ∷ l) r o f c s =
      let t = (stands_arc ws e l p q).0 s in
      let x = t.1 in
      let y = t.3 in
      let one : readArc n low m (get_or ws p 0) (get_or ws (p + 1) 0) ≡ Some (max m (suc e.1)) =
      rw (x, y) (arc_complete n low m e.0 e.1 r.0 f.0 o.0 (omega (arith, met_ge (max m (suc e.1)) l))) in
      rw (one, x, add-one) (arcs_complete n (suc e.0) (max m (suc e.1)) (p + 2) q l r.1 o.1 f.1 c t.4)

  node_complete : (n i m p q : ℕ) (v : Node) → i < m → NodeFits v → Rising 0 (arcsOf v) → InOrder m (arcsOf v) → met m (arcsOf v) ≤ n →
      Stands ws p (node_words v) q
      → read_node ws n i m p ≡ went q (met m (arcsOf v))
  node_complete n i m p q (atom a) h f r o c s =
      let t = (stands_atom ws a p q).0 s in
      let e = t.1 in
      sym (node_atom ws n i m p h t.0 (omega arith) (omega arith)) ∙ rw t.2
  node_complete n i m p q (arcs l) h f r o c s =
      let t = (stands_node ws l p q).0 s in
      let e = t.1 in
      let there = t.0 in
      let room : p + 1 + (length l + length l) ≤ length ws =
      omega (arith, stands_within ws (arc_words l) (p + 1) q (omega arith) t.2, stands_arcs ws l (p + 1) q t.2) in
      sym (node_arcs ws n i m p h there (omega (arith, f.0)))
      ∙ rw e (arcs_there ws n (length l) m (p + 1) room ∙ arcs_complete n 0 m (p + 1) q l r o f.1 c t.2)

  nodes_complete : (n i m p q : ℕ) (g : Graph) → Numbered i m g → GraphFits g → i + length g ≡ n → Stands ws p (nodes_words g) q →
      readNodes ws n (length g) i m p ≡ Some q
  unfolding readNodes
  nodes_complete n i m p q [] h f c s = ap Some ((stands_nil ws p q).0 s)
  nodes_complete n i m p q (v ∷ vs) h f c s =
      let t = (stands_nodes ws v vs p q).0 s in
      let k = numbered_ge (suc i) (met m (arcsOf v)) vs h.3 in
      rw (node_complete n i m p t.0 v h.0 f.0 h.1 h.2 (omega arith) t.1, add-one)
      (nodes_complete n (suc i) (met m (arcsOf v)) t.0 q vs h.3 f.1 (omega arith) t.2)

  graph_complete : (p q : ℕ) (g : Graph) → Canonical g → GraphFits g → Stands ws p (graph_words g) q → readGraph ws p ≡ Some q
  graph_complete p q g h f s =
      let t = (stands_graph ws g p q).0 s in
      let e = t.1 in
      let one : 1 ≤ length g = omega (arith, numbered_ge 0 1 g h) in
      sym (graph_nodes ws p t.0 (omega arith)) ∙ rw e (nodes_complete (length g) 0 1 (p + 1) q g h f (omega arith) t.2)

  mutual
    unfolding times

    pub complete : (d : Desc) (left p q : ℕ) → WellFormed d left → Stands ws p (words d) q → readDescription left ws p ≡ Some q
    complete (desc g ds) left p q k s =
        let t = (stands_description ws g ds p q).0 s in
        let e = t.3 in
        description_times left ws p t.0 (sym (graph_complete p t.0 g k.0 k.1 t.1)) t.2
        ∙ rw e (disjunctions_complete ds left (t.0 + 1) q k.2 t.4)

    disjunctions_complete : (ds : Disjs) (left p q : ℕ) → WellAll ds left → Stands ws p (disjs_words ds) q →
        times (readDisjunction left ws) (disjs ds) p ≡ Some q
    disjunctions_complete end left p q k s = ap Some ((stands_nil ws p q).0 s)
    disjunctions_complete (a and ds) zero p q k s = absurd k
    disjunctions_complete (a and ds) (suc left) p q k s =
        let t = (stands_disjunctions ws a ds p q).0 s in
        let u = (stands_disjunction ws a p t.0).0 t.1 in
        let e = u.1 in
        let h = k.0 in
        let two : 2 ≤ get_or ws p 0 = omega arith in
        let one : readDisjunction (suc left) ws p ≡ Some t.0 = disjunction_times (suc left) ws p (omega arith) u.0 two
        ∙ rw (e, sub-one) (alternatives_complete a left (p + 1) t.0 k.1 u.2) in
        rw one (disjunctions_complete ds (suc left) t.0 q k.2 t.2)

    alternatives_complete : (a : Alts) (left p q : ℕ) → WellAny a left → Stands ws p (alts_words a) q →
        times (readDescription left ws) (alts a) p ≡ Some q
    alternatives_complete fail left p q k s = ap Some ((stands_nil ws p q).0 s)
    alternatives_complete (d or a) left p q k s =
        let t = (stands_alternatives ws d a p q).0 s in
        rw (complete d left p t.0 k.0 t.1) (alternatives_complete a left t.0 q k.1 t.2)
