-- Laws of reading a graph, in the form in which the functions' returns ask them.
-- Assumes nothing.
use Prim.Native.Nat.{ℕ, zero, suc, ◌+◌, ◌-◌, ◌≤◌, ◌<◌}
use mathlib.Core.Path.{◌≡◌, refl, sym, ap}
use mathlib.Core.List.{List}
use mathlib.Core.Bool.{Bool, true, false}
use lib.ListN.{length, get_or}
use lib.Dec.{ltb, leb}
use borrow.Author.Tests.{le-ltb, lt-ltb, le-leb, lt-leb, ltb-true}
use native.Mathlib.Nat.{not-suc-le-zero}
use native.Mathlib.Numerals.{add-one}
use Rattle.theory.specs.Limits.{code_limit}
use Rattle.std.proofs.lemmas.Option.{same_Some}
use Rattle.std.specs.Prelude.{Option, Some, None}
use Rattle.graphs.specs.declared.graph.Walk.{Walk}
use Rattle.graphs.specs.Graph.{pick, onward, went, readArc, arcsFrom, readArcs, read_node, readNodes, readGraph}

module _ (n low met f t : ℕ) where
  pub arc_low : f < low → None ≡ readArc n low met f t
  unfolding readArc
  arc_low h = simp (lt-leb _ _ h)

  pub arc_high : low ≤ f → code_limit ≤ f → None ≡ readArc n low met f t
  unfolding readArc
  arc_high h k = simp (le-leb _ _ h, le-ltb _ _ k)

  module _ (rises : low ≤ f) (feature : f < code_limit) where
    pub arc_met : t < met → Some met ≡ readArc n low met f t
    unfolding readArc
    arc_met h = simp (le-leb _ _ rises, lt-ltb _ _ feature, lt-ltb _ _ h)

    pub arc_far : met ≤ t → met < t → None ≡ readArc n low met f t
    unfolding readArc
    arc_far h k = simp (le-leb _ _ rises, lt-ltb _ _ feature, le-ltb _ _ h, lt-leb _ _ k)

    pub arc_no_node : met ≤ t → t ≤ met → n ≤ t → None ≡ readArc n low met f t
    unfolding readArc
    arc_no_node h k l = simp (le-leb _ _ rises, lt-ltb _ _ feature, le-ltb _ _ h, le-leb _ _ k, le-ltb _ _ l)

    pub arc_next : met ≤ t → t ≤ met → t < n → Some (t + 1) ≡ readArc n low met f t
    unfolding readArc
    arc_next h k l = simp (le-leb _ _ rises, lt-ltb _ _ feature, le-ltb _ _ h, le-leb _ _ k, lt-ltb _ _ l)

-- what a choice finds, it finds where the test holds
pub pick_some : {A : Type 0} (b : Bool) (x : Option A) {y : A} → pick b x None ≡ Some y → (b ≡ true) × (x ≡ Some y)
pick_some true x e = (refl, e)
pick_some false x e = absurd (cc)

-- what is found after another thing is found after one that is there
pub onward_some : {A B : Type 0} (o : Option A) (f : A → Option B) {y : B} → onward o f ≡ Some y → (x : A) × (o ≡ Some x)
onward_some (Some x) f e = (x, refl)
onward_some None f e = absurd (cc)

pub went_same : (q m q' m' : ℕ) → went q m ≡ went q' m' → (q ≡ q') × (m ≡ m')
went_same q m q' m' e = let w = same_Some _ _ e in (ap (λ (x : Walk). x.next) w, ap (λ (x : Walk). x.met) w)

-- a well-placed arc has a feature of the layout
pub arc_feature : (n low met f t m : ℕ) → Some m ≡ readArc n low met f t → f < code_limit
unfolding readArc
arc_feature n low met f t m e =
    let a = pick_some (leb low f) _ (sym e) in
    let b = pick_some (ltb f code_limit) _ a.1 in
    ltb-true _ _ b.0

module _ (ws : List ℕ) (n : ℕ) where
  pub arcs_short : (k met p : ℕ) → length ws < p + (k + k) → None ≡ readArcs ws n k met p
  unfolding readArcs
  arcs_short k met p h = simp (lt-leb _ _ h)

  pub arcs_there : (k met p : ℕ) → p + (k + k) ≤ length ws → readArcs ws n k met p ≡ arcsFrom ws n k 0 met p
  unfolding readArcs
  arcs_there k met p h = simp (le-leb _ _ h)

  pub arcs_done : (k low met p : ℕ) → k ≤ 0 → went p met ≡ arcsFrom ws n k low met p
  unfolding arcsFrom
  arcs_done zero low met p h = refl
  arcs_done (suc k) low met p h = absurd (not-suc-le-zero h)

  pub arcs_stop : (k low met p : ℕ) → 0 < k → None ≡ readArc n low met (get_or ws p 0) (get_or ws (p + 1) 0) →
      None ≡ arcsFrom ws n k low met p
  unfolding arcsFrom
  arcs_stop zero low met p h e = absurd (not-suc-le-zero h)
  arcs_stop (suc k) low met p h e = rw (← e)

  pub arcs_step : (k k' low met p met' : ℕ) → k ≡ k' + 1 → Some met' ≡ readArc n low met (get_or ws p 0) (get_or ws (p + 1) 0)
      → arcsFrom ws n k low met p ≡ arcsFrom ws n k' (get_or ws p 0 + 1) met' (p + 2)
  unfolding arcsFrom
  arcs_step k k' low met p met' h e = rw (h, add-one, ← e)

  module _ (i met p : ℕ) where
    pub node_unmet : met ≤ i → None ≡ read_node ws n i met p
    unfolding read_node
    node_unmet h = simp (le-ltb _ _ h)

    pub node_none : i < met → length ws ≤ p → None ≡ read_node ws n i met p
    unfolding read_node
    node_none h k = simp (lt-ltb _ _ h, le-ltb _ _ k)

    module _ (here : i < met) (there : p < length ws) where
      pub node_arcs : get_or ws p 0 < code_limit → readArcs ws n (get_or ws p 0) met (p + 1) ≡ read_node ws n i met p
      unfolding read_node
      node_arcs h = simp (lt-ltb _ _ here, lt-ltb _ _ there, lt-ltb _ _ h)

      pub node_bad : code_limit ≤ get_or ws p 0 → code_limit ≤ get_or ws p 0 - code_limit → None ≡ read_node ws n i met p
      unfolding read_node
      node_bad h k = simp (lt-ltb _ _ here, lt-ltb _ _ there, le-ltb _ _ h, le-ltb _ _ k)

      pub node_atom : code_limit ≤ get_or ws p 0 → get_or ws p 0 - code_limit < code_limit → went (p + 1) met ≡ read_node ws n i met p
      unfolding read_node
      node_atom h k = simp (lt-ltb _ _ here, lt-ltb _ _ there, le-ltb _ _ h, lt-ltb _ _ k)

  pub nodes_done : (k i met p : ℕ) → k ≤ 0 → Some p ≡ readNodes ws n k i met p
  unfolding readNodes
  nodes_done zero i met p h = refl
  nodes_done (suc k) i met p h = absurd (not-suc-le-zero h)

  pub nodes_stop : (k i met p : ℕ) → 0 < k → None ≡ read_node ws n i met p → None ≡ readNodes ws n k i met p
  unfolding readNodes
  nodes_stop zero i met p h e = absurd (not-suc-le-zero h)
  nodes_stop (suc k) i met p h e = rw (← e)

  pub nodes_step : (k k' i met p : ℕ) (w : Walk) → k ≡ k' + 1 → Some w ≡ read_node ws n i met p →
      readNodes ws n k i met p ≡ readNodes ws n k' (i + 1) w.met w.next
  unfolding readNodes
  nodes_step k k' i met p w h e = rw (h, add-one, ← e)

module _ (ws : List ℕ) (p : ℕ) where
  pub graph_none : length ws ≤ p → None ≡ readGraph ws p
  unfolding readGraph
  graph_none h = simp (le-ltb _ _ h)

  pub graph_empty : p < length ws → get_or ws p 0 < 1 → None ≡ readGraph ws p
  unfolding readGraph
  graph_empty h k = simp (lt-ltb _ _ h, lt-leb _ _ k)

  pub graph_nodes : p < length ws → 1 ≤ get_or ws p 0 → readNodes ws (get_or ws p 0) (get_or ws p 0) 0 1 (p + 1) ≡ readGraph ws p
  unfolding readGraph
  graph_nodes h k = simp (lt-ltb _ _ h, le-leb _ _ k)
