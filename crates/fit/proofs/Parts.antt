-- The nodes that words are: one at a time, and where a graph stands.
-- Assumes nothing.
use Prim.Native.Nat.{ℕ, zero, suc, ◌+◌, ◌-◌, ◌*◌, ◌≤◌, ◌<◌}
use native.Mathlib.Omega.{arith}
use native.Mathlib.Nat.{not-suc-le-zero}
use native.Mathlib.Numerals.{sub-one}
use mathlib.Core.Path.{◌≡◌, refl, sym, ap, ◌∙◌}
use mathlib.Core.Bool.{Bool}
use mathlib.Core.List.{List, [], ◌∷◌}
use lib.ListN.{length, get_or}
use borrow.Author.Tests.{le-ltb, lt-ltb}
use Rattle.theory.specs.Limits.{code_limit}
use Rattle.theory.specs.Net.{Node, atom, arcs, Graph, arcsOf, met, Numbered}
use Rattle.theory.specs.Layout.{arc_words, node_words, nodes_words, NodeFits, GraphFits}
use Rattle.theory.proofs.Number.{TestLt, less, geq, test_lt}
use Rattle.theory.proofs.Instance.{met_few}
use Rattle.layout.specs.Standing.{Stands}
use Rattle.layout.proofs.Standing.{stands_nil, stands_arc, stands_atom, stands_node, stands_nodes, stands_arcs}
use Rattle.fit.specs.Parts.{arcs_in, after_node, arcsOfWords, lastArcs, nodeFrom, nodesFrom, nodesEnd}

pub arcs_in_low : (h : ℕ) → h < code_limit → h ≡ arcs_in h
unfolding arcs_in
arcs_in_low h l = simp (lt-ltb _ _ l)

pub arcs_in_high : (h : ℕ) → code_limit ≤ h → 0 ≡ arcs_in h
unfolding arcs_in
arcs_in_high h l = simp (le-ltb _ _ l)

module _ (ws : List ℕ) where
  pub arcs_step : (p k : ℕ) → 0 < k → arcsOfWords ws p k ≡ (get_or ws p 0, get_or ws (p + 1) 0) ∷ arcsOfWords ws (p + 2) (k - 1)
  unfolding arcsOfWords
  arcs_step p zero h = absurd (not-suc-le-zero h)
  arcs_step p (suc k) h = rw sub-one

  pub arcs_none : (p k : ℕ) → k ≤ 0 → arcsOfWords ws p k ≡ []
  unfolding arcsOfWords
  arcs_none p zero h = refl
  arcs_none p (suc k) h = absurd (not-suc-le-zero h)

  pub last_step : (e k : ℕ) → 0 < k → 2 * k ≤ e →
      lastArcs ws e k ≡ (get_or ws (e - 2 * k) 0, get_or ws (e - 2 * k + 1) 0) ∷ lastArcs ws e (k - 1)
  last_step e k h r = let z : e - 2 * k + 2 ≡ e - 2 * (k - 1) = omega arith in arcs_step (e - 2 * k) k h ∙ rw z

  pub node_arcs : (p : ℕ) → get_or ws p 0 < code_limit → nodeFrom ws p ≡ arcs (arcsOfWords ws (p + 1) (get_or ws p 0))
  unfolding nodeFrom
  node_arcs p h = simp (lt-ltb _ _ h)

  pub node_atom : (p : ℕ) → code_limit ≤ get_or ws p 0 → nodeFrom ws p ≡ atom (get_or ws p 0 - code_limit)
  unfolding nodeFrom
  node_atom p h = simp (le-ltb _ _ h)

  pub node_its : (p : ℕ) → arcsOf (nodeFrom ws p) ≡ arcsOfWords ws (p + 1) (arcs_in (get_or ws p 0))
  node_its p = go (test_lt (get_or ws p 0) code_limit)
    where
      go : {t : Bool} → TestLt (get_or ws p 0) code_limit t → arcsOf (nodeFrom ws p) ≡ arcsOfWords ws (p + 1) (arcs_in (get_or ws p 0))
      go (less l) = ap arcsOf (node_arcs p l) ∙ ap (arcsOfWords ws (p + 1)) (arcs_in_low (get_or ws p 0) l)
      go (geq l) = ap arcsOf (node_atom p l) ∙ sym (arcs_none (p + 1) (arcs_in (get_or ws p 0)) (omega (arith, arcs_in_high (get_or ws p 0) l)))

  pub nodes_step : (p k i : ℕ) → i < k → nodesFrom ws p (k - i) ≡ nodeFrom ws p ∷ nodesFrom ws (after_node ws p) (k - (i + 1))
  unfolding nodesFrom
  nodes_step p k i h = let z : k - i ≡ suc (k - (i + 1)) = omega arith in rw z

  pub end_step : (p k i : ℕ) → i < k → nodesEnd ws p (k - i) ≡ nodesEnd ws (after_node ws p) (k - (i + 1))
  unfolding nodesEnd
  end_step p k i h = let z : k - i ≡ suc (k - (i + 1)) = omega arith in rw z

  pub nodes_none : (p k i : ℕ) → k ≤ i → nodesFrom ws p (k - i) ≡ []
  unfolding nodesFrom
  nodes_none p k i h = let z : k - i ≡ 0 = omega arith in rw z

  pub end_none : (p k i : ℕ) → k ≤ i → nodesEnd ws p (k - i) ≡ p
  unfolding nodesEnd
  end_none p k i h = let z : k - i ≡ 0 = omega arith in rw z

  pub nodes_length : (p k : ℕ) → length (nodesFrom ws p k) ≡ k
  unfolding nodesFrom
  nodes_length p zero = refl
  nodes_length p (suc k) = ap suc (nodes_length (after_node ws p) k)

  pub end_far : (p k : ℕ) → p + k ≤ nodesEnd ws p k
  unfolding nodesEnd
  end_far p zero = omega arith
  end_far p (suc k) = omega (arith, end_far (after_node ws p) k)

  arcs_length : (p k : ℕ) → length (arcsOfWords ws p k) ≡ k
  unfolding arcsOfWords
  arcs_length p zero = refl
  arcs_length p (suc k) = ap suc (arcs_length (p + 2) k)

  -- a node that an arc meets takes three words
  pub nodes_few : (p n k m : ℕ) → Numbered k m (nodesFrom ws p n) → p + 3 * n + 2 * k ≤ nodesEnd ws p n + 2 * m
  unfolding nodesFrom nodesEnd
  nodes_few p zero k m c = omega arith
  nodes_few p (suc n) k m c =
      let l : length (arcsOf (nodeFrom ws p)) ≡ arcs_in (get_or ws p 0) = ap length (node_its p)
      ∙ arcs_length (p + 1) (arcs_in (get_or ws p 0)) in
      omega (
        arith,
        nodes_few (after_node ws p) n (suc k) (met m (arcsOf (nodeFrom ws p))) c.3,
        met_few m (arcsOf (nodeFrom ws p)) c.2,
      )

  arcs_stand : (l : List (ℕ × ℕ)) (p q : ℕ) → Stands ws p (arc_words l) q → arcsOfWords ws p (length l) ≡ l
  unfolding arcsOfWords
  arcs_stand [] p q s = refl
  arcs_stand (e ∷ l) p q s =
      let t = (stands_arc ws e l p q).0 s in
      let a = t.1 in
      let b = t.3 in
      let r = arcs_stand l (p + 2) q t.4 in
      rw (a, b, r)

  node_stand : (v : Node) (p q : ℕ) → NodeFits v → Stands ws p (node_words v) q → (nodeFrom ws p ≡ v) × (after_node ws p ≡ q)
  node_stand (atom a) p q f s =
      let t = (stands_atom ws a p q).0 s in
      let e = t.1 in
      let d = t.2 in
      let z : get_or ws p 0 - code_limit ≡ a = omega arith in
      (node_atom p (omega arith) ∙ rw z, omega (arith, arcs_in_high (get_or ws p 0) (omega arith)))
  node_stand (arcs l) p q f s =
      let t = (stands_node ws l p q).0 s in
      let e = t.1 in
      let b = f.0 in
      let d = stands_arcs ws l (p + 1) q t.2 in
      (node_arcs p (omega arith) ∙ rw e (ap arcs (arcs_stand l (p + 1) q t.2)), omega (arith, arcs_in_low (get_or ws p 0) (omega arith)))

  -- where the nodes of a graph stand, the words are that graph
  pub nodes_stand : (g : Graph) (p q : ℕ) → GraphFits g → Stands ws p (nodes_words g) q →
      (nodesFrom ws p (length g) ≡ g) × (nodesEnd ws p (length g) ≡ q)
  unfolding nodesFrom nodesEnd
  nodes_stand [] p q f s = (refl, (stands_nil ws p q).0 s)
  nodes_stand (v ∷ vs) p q f s =
      let t = (stands_nodes ws v vs p q).0 s in
      let n = node_stand v p t.0 f.0 t.1 in
      let a = n.0 in
      let b = n.1 in
      let r = nodes_stand vs t.0 q f.1 t.2 in
      (rw (a, b) (ap (λ (g : Graph). v ∷ g) r.0), ap (λ (k : ℕ). nodesEnd ws k (length vs)) b ∙ r.1)
