-- What is read as a description is the words of a well-formed one.
-- Assumes nothing.
use Prim.Native.Nat.{ℕ, zero, suc, ◌+◌, ◌-◌, ◌≤◌, ◌<◌, max}
use native.Mathlib.Omega.{arith}
use native.Mathlib.Numerals.{add-one}
use mathlib.Core.Path.{◌≡◌, refl, sym, subst, ap}
use mathlib.Core.List.{List, [], ◌∷◌}
use mathlib.Core.Bool.{Bool, true, false}
use lib.ListN.{length, get_or}
use lib.Dec.{ltb, leb}
use borrow.Author.Tests.{ltb-true, ltb-false, leb-true}
use Rattle.theory.specs.Limits.{code_limit}
use Rattle.theory.specs.Net.{Node, atom, arcs, Graph, arcsOf, met, Rising, InOrder, Numbered, Canonical}
use Rattle.theory.specs.Descr.{Desc, desc, Disjs, end, ◌and◌, Alts, fail, ◌or◌, disjs, alts}
use Rattle.theory.specs.Layout.{arc_words, node_words, nodes_words, words, disjs_words, alts_words, ArcsFit, NodeFits, GraphFits}
use Rattle.theory.specs.Layout.{WellFormed, WellAll, WellAny}
use Rattle.theory.proofs.Instance.{met_ge}
use Rattle.graphs.specs.declared.graph.Walk.{Walk}
use Rattle.std.specs.Prelude.{Option, Some, None}
use Rattle.layout.specs.Reading.{times, disjunctionOf, descriptionOf, readDisjunction, readDescription}
use Rattle.graphs.specs.Graph.{pick, onward, went, readArc, arcsFrom, readArcs, read_node, readNodes, readGraph}
use Rattle.layout.specs.Standing.{Stands, graph_words, disjunction_words}
use Rattle.graphs.proofs.Laws.{pick_some, onward_some, went_same}
use Rattle.layout.proofs.Standing.{stands_nil, stands_cons, stands_arc, stands_nodes, stands_description, stands_disjunctions}
use Rattle.layout.proofs.Standing.{stands_alternatives}

-- a node that was read, with the position after it and the number of nodes met
onward_went : (o : Option Walk) (f : Walk → Option ℕ) {q : ℕ} → onward o f ≡ Some q → (r : ℕ) × (m : ℕ) × (o ≡ went r m)
onward_went o f e = let a = onward_some o f e in (a.0.next, a.0.met, a.1)

arc_sound : (n low m f t after : ℕ) → readArc n low m f t ≡ Some after →
    (low ≤ f) × (f < code_limit) × (t ≤ m) × (after ≡ max m (suc t)) × (m ≤ n → after ≤ n)
unfolding readArc
arc_sound n low m f t after e =
    let a = pick_some (leb low f) _ e in
    let b = pick_some (ltb f code_limit) _ a.1 in
    let c = go (ltb t m) refl b.1 in
    (leb-true _ _ a.0, ltb-true _ _ b.0, c.0, c.1, c.2)
  where
    go : (b : Bool) → ltb t m ≡ b → pick b (Some m) (pick (leb t m) (pick (ltb t n) (Some (t + 1)) None) None) ≡ Some after →
        (t ≤ m) × (after ≡ max m (suc t)) × (m ≤ n → after ≤ n)
    go true h e = let l : t < m = ltb-true _ _ h in let k : m ≡ after = cc in (omega arith, omega arith, λ g. omega arith)
    go false h e =
        let l : m ≤ t = ltb-false _ _ h in
        let a = pick_some (leb t m) _ e in
        let b = pick_some (ltb t n) _ a.1 in
        let u : t ≤ m = leb-true _ _ a.0 in
        let v : t < n = ltb-true _ _ b.0 in
        let x = b.1 in
        let k : t + 1 ≡ after = cc in
        (omega arith, omega arith, λ g. omega arith)

module _ (ws : List ℕ) where
  arcs_sound : (n k low m p q after : ℕ) → m ≤ n → p + (k + k) ≤ length ws → arcsFrom ws n k low m p ≡ went q after
      → (l : List (ℕ × ℕ)) × (length l ≡ k) × Rising low l × InOrder m l × ArcsFit l × (after ≡ met m l) × (after ≤ n)
      × Stands ws p (arc_words l) q
  unfolding arcsFrom
  arcs_sound n zero low m p q after h room e =
      let g = went_same p m q after e in
      ([], refl, tt, tt, tt, sym g.1, omega arith, (stands_nil ws p q).1 g.0)
  arcs_sound n (suc k) low m p q after h room e =
      let f = get_or ws p 0 in
      let t = get_or ws (p + 1) 0 in
      let a = onward_some (readArc n low m f t) _ e in
      let b = arc_sound n low m f t a.0 a.1 in
      let i = arcs_sound n k (f + 1) (max m (suc t)) (p + 2) q after (rw b.3 at (b.4 h)) (omega arith) (rw (← b.3) (rw a.1 at e)) in (
        (f, t) ∷ i.0,
        ap suc i.1,
        (b.0, subst (λ (k : ℕ). Rising k i.0) (add-one f) i.2),
        (b.2, i.3),
        (b.1, i.4),
        i.5,
        i.6,
        (stands_arc ws (f, t) i.0 p q).1 (omega arith, refl, omega arith, refl, i.7),
      )

  NodeSound : ℕ → ℕ → ℕ → ℕ → ℕ → Type 0
  NodeSound n m p q after = (v : Node) × NodeFits v × Rising 0 (arcsOf v) × InOrder m (arcsOf v) × (after ≡ met m (arcsOf v)) × (after ≤ n)
      × Stands ws p (node_words v) q

  node_head : (n m p q after : ℕ) (b : Bool) → ltb (get_or ws p 0) code_limit ≡ b → m ≤ n → p < length ws
      → pick b (readArcs ws n (get_or ws p 0) m (p + 1)) (pick (ltb (get_or ws p 0 - code_limit) code_limit) (went (p + 1) m) None)
      ≡ went q after → NodeSound n m p q after
  unfolding NodeSound readArcs
  node_head n m p q after true h g there e =
      let a = pick_some (leb (p + 1 + (get_or ws p 0 + get_or ws p 0)) (length ws)) _ e in
      let l = arcs_sound n (get_or ws p 0) 0 m (p + 1) q after g (leb-true _ _ a.0) a.1 in
      let small : get_or ws p 0 < code_limit = ltb-true _ _ h in (
        arcs l.0,
        (rw l.1 small, l.4),
        l.2,
        l.3,
        l.5,
        l.6,
        (stands_cons ws (length l.0) (arc_words l.0) p q).1 (there, sym l.1, l.7),
      )
  node_head n m p q after false h g there e =
      let a = pick_some (ltb (get_or ws p 0 - code_limit) code_limit) _ e in
      let big : code_limit ≤ get_or ws p 0 = ltb-false _ _ h in
      let small : get_or ws p 0 - code_limit < code_limit = ltb-true _ _ a.0 in
      let k = went_same (p + 1) m q after a.1 in (
        atom (get_or ws p 0 - code_limit),
        small,
        tt,
        tt,
        sym k.1,
        omega arith,
        (stands_cons ws (code_limit + (get_or ws p 0 - code_limit)) [] p q).1 (there, omega arith, (stands_nil ws (p + 1) q).1 k.0),
      )

  node_sound : (n i m p q after : ℕ) → m ≤ n → read_node ws n i m p ≡ went q after → (i < m) × NodeSound n m p q after
  unfolding read_node
  node_sound n i m p q after g e =
      let a = pick_some (ltb i m) _ e in
      let b = pick_some (ltb p (length ws)) _ a.1 in
      (ltb-true _ _ a.0, node_head n m p q after (ltb (get_or ws p 0) code_limit) refl g (ltb-true _ _ b.0) b.1)

  nodes_sound : (n k i m p q : ℕ) → m ≤ n → i ≤ m → i + k ≡ n → readNodes ws n k i m p ≡ Some q
      → (g : Graph) × (length g ≡ k) × Numbered i m g × GraphFits g × Stands ws p (nodes_words g) q
  unfolding readNodes NodeSound
  nodes_sound n zero i m p q h l c e = ([], refl, omega arith, tt, (stands_nil ws p q).1 (cc))
  nodes_sound n (suc k) i m p q h l c e =
      let a = onward_went (read_node ws n i m p) _ e in
      let s = node_sound n i m p a.0 a.1 h a.2 in
      let v = s.1.0 in
      let less = s.0 in
      let x = s.1.4 in
      let y = s.1.5 in
      let r = nodes_sound n k (i + 1) (met m (arcsOf v)) a.0 q (omega arith) (omega (arith, met_ge m (arcsOf v))) (omega arith)
      (rw (← x) (rw a.2 at e)) in (
        v ∷ r.0,
        ap suc r.1,
        (less, s.1.2, s.1.3, subst (λ (k : ℕ). Numbered k (met m (arcsOf v)) r.0) (add-one i) r.2),
        (s.1.1, r.3),
        (stands_nodes ws v r.0 p q).1 (a.0, s.1.6, r.4),
      )

  graph_sound : (p q : ℕ) → readGraph ws p ≡ Some q → (g : Graph) × Canonical g × GraphFits g × Stands ws p (graph_words g) q
  unfolding readGraph
  graph_sound p q e =
      let a = pick_some (ltb p (length ws)) _ e in
      let b = pick_some (leb 1 (get_or ws p 0)) _ a.1 in
      let one : 1 ≤ get_or ws p 0 = leb-true _ _ b.0 in
      let x = nodes_sound (get_or ws p 0) (get_or ws p 0) 0 1 (p + 1) q one (omega arith) (omega arith) b.1 in
      (x.0, x.2, x.3, (stands_cons ws (length x.0) (nodes_words x.0) p q).1 (ltb-true _ _ a.0, sym x.1, x.4))

  abbrev DisjunctionSound : ℕ → Type 0
  DisjunctionSound left = (p q : ℕ) → readDisjunction left ws p ≡ Some q →
      (a : Alts) × WellAll (a and end) left × Stands ws p (disjunction_words a) q

  abbrev DescriptionSound : ℕ → Type 0
  DescriptionSound left = (p q : ℕ) → readDescription left ws p ≡ Some q → (d : Desc) × WellFormed d left × Stands ws p (words d) q

  well_and : (a : Alts) (ds : Disjs) (left : ℕ) → WellAll (a and end) left → WellAll ds left → WellAll (a and ds) left
  well_and a ds zero h k = h
  well_and a ds (suc left) h k = (h.0, h.1, k)

  disjunctions_sound : (left : ℕ) → DisjunctionSound left → (k p q : ℕ) → times (readDisjunction left ws) k p ≡ Some q
      → (ds : Disjs) × (disjs ds ≡ k) × WellAll ds left × Stands ws p (disjs_words ds) q
  unfolding times
  disjunctions_sound left S zero p q e = (end, refl, tt, (stands_nil ws p q).1 (cc))
  disjunctions_sound left S (suc k) p q e =
      let a = onward_some (readDisjunction left ws p) _ e in
      let x = S p a.0 a.1 in
      let r = disjunctions_sound left S k a.0 q (rw a.1 at e) in (
        x.0 and r.0,
        ap suc r.1,
        well_and x.0 r.0 left x.1 r.2,
        (stands_disjunctions ws x.0 r.0 p q).1 (a.0, x.2, r.3),
      )

  alternatives_sound : (left : ℕ) → DescriptionSound left → (k p q : ℕ) → times (readDescription left ws) k p ≡ Some q
      → (a : Alts) × (alts a ≡ k) × WellAny a left × Stands ws p (alts_words a) q
  unfolding times
  alternatives_sound left S zero p q e = (fail, refl, tt, (stands_nil ws p q).1 (cc))
  alternatives_sound left S (suc k) p q e =
      let a = onward_some (readDescription left ws p) _ e in
      let x = S p a.0 a.1 in
      let r = alternatives_sound left S k a.0 q (rw a.1 at e) in
      (x.0 or r.0, ap suc r.1, (x.1, r.2), (stands_alternatives ws x.0 r.0 p q).1 (a.0, x.2, r.3))

  description_sound : (left : ℕ) → DisjunctionSound left → DescriptionSound left
  unfolding readDescription descriptionOf
  description_sound left S p q e =
      let a = onward_some (readGraph ws p) _ e in
      let g = graph_sound p a.0 a.1 in
      let b = pick_some (ltb a.0 (length ws)) _ (rw a.1 at e) in
      let ds = disjunctions_sound left S (get_or ws a.0 0) (a.0 + 1) q b.1 in (
        desc g.0 ds.0,
        (g.1, g.2, ds.2),
        (stands_description ws g.0 ds.0 p q).1 (a.0, g.3, ltb-true _ _ b.0, sym ds.1, ds.3),
      )

  disjunction_sound : (left : ℕ) → DisjunctionSound left
  unfolding readDisjunction disjunctionOf readDescription
  disjunction_sound zero p q e = absurd (cc)
  disjunction_sound (suc left) p q e =
      let a = pick_some (ltb p (length ws)) _ e in
      let b = pick_some (leb 2 (get_or ws p 0)) _ a.1 in
      let r = alternatives_sound left (description_sound left (disjunction_sound left)) (get_or ws p 0) (p + 1) q b.1 in
      let two : 2 ≤ get_or ws p 0 = leb-true _ _ b.0 in
      (r.0, (rw r.1 two, r.2, tt), (stands_cons ws (alts r.0) (alts_words r.0) p q).1 (ltb-true _ _ a.0, sym r.1, r.3))

  pub sound : (left : ℕ) → DescriptionSound left
  sound left = description_sound left (disjunction_sound left)
