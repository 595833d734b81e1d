-- The arcs of two graphs side by side, as numbers, and the rules of their classes.
-- Assumes nothing.
use mathlib.Core.Path.{◌≡◌, refl, ap, sym}
use mathlib.Core.Logic.{◌⊎◌, inl, inr, ⊎_elim}
use mathlib.Core.Bool.{Bool, true, false}
use mathlib.Core.List.Memᴰ
use mathlib.Core.List.{List, [], ◌∷◌, Memᴰ}
use Prim.Native.Nat.{ℕ, zero, suc, ◌+◌, ◌<◌}
use native.Mathlib.Omega.{arith}
use lib.ListN.{length}
use lib.Dec.{ltb}
use Rattle.theory.specs.Net.{Graph, nodeAt, arcsOf, beside}
use Rattle.theory.specs.Join.{Edge, Rule}
use Rattle.theory.proofs.Number.{TestLt, less, geq, test_lt}
use Rattle.theory.specs.ClashNode.{node_number}
use Rattle.theory.specs.Located.{inner_arcs, inner_edges, two_edges, root_rules}

abbrev Arc : Type 0
Arc = ℕ × ℕ

-- the arcs of one graph
module _ (o n : ℕ) where
  arcs_in : (k : ℕ) (l : List Arc) (f t : ℕ) → Memᴰ (f, t) l → t < n → Memᴰ {A = Edge} (o + k, f, o + t) (inner_arcs o n k l)
  arcs_in k [] f t m h = absurd (Memᴰ.not-nil m)
  arcs_in k (p ∷ l) f t m h = go (ltb p.1 n) (test_lt p.1 n) (Memᴰ.cases_cons m) (λ i. arcs_in k l f t i h)
    where
      go : (b : Bool) → TestLt p.1 n b → (◌≡◌ {A = Arc} (f, t) p) ⊎ Memᴰ (f, t) l →
          (Memᴰ (f, t) l → Memᴰ {A = Edge} (o + k, f, o + t) (inner_arcs o n k l)) →
          Memᴰ {A = Edge} (o + k, f, o + t)
          (elim b [ true ↦ (o + k, p.0, o + p.1) ∷ inner_arcs o n k l | false ↦ inner_arcs o n k l ])
      go true x (inl e) s = Memᴰ.head (ap (λ (z : Arc). (o + k, z.0, o + z.1)) e)
      go true x (inr i) s = Memᴰ.tail (s i)
      go false (geq x) (inl e) s = absurd (omega (arith, ap (λ (z : Arc). z.1) e))
      go false x (inr i) s = s i

  arcs_out : (k : ℕ) (l : List Arc) (e : Edge) → Memᴰ e (inner_arcs o n k l) →
      (t : ℕ) × (t < n) × Memᴰ (e.1, t) l × (o + k ≡ e.0) × (o + t ≡ e.2)
  arcs_out k [] e m = absurd (Memᴰ.not-nil m)
  arcs_out k (p ∷ l) e m = go (ltb p.1 n) (test_lt p.1 n) m (arcs_out k l e)
    where
      Out : List Arc → Type 0
      Out l = (t : ℕ) × (t < n) × Memᴰ (e.1, t) l × (o + k ≡ e.0) × (o + t ≡ e.2)

      up : Out l → Out (p ∷ l)
      up (t, h, i, a, b) = (t, h, Memᴰ.tail i, a, b)

      here : p.1 < n → ◌≡◌ {A = Edge} e (o + k, p.0, o + p.1) → Out (p ∷ l)
      here h d = (p.1, h, Memᴰ.head (λ i. ((d i).1, p.1)), sym (ap (λ (z : Edge). z.0) d), sym (ap (λ (z : Edge). z.2) d))

      go : (b : Bool) → TestLt p.1 n b →
          Memᴰ e (elim b [ true ↦ (o + k, p.0, o + p.1) ∷ inner_arcs o n k l | false ↦ inner_arcs o n k l ]) →
          (Memᴰ e (inner_arcs o n k l) → Out l) → Out (p ∷ l)
      go true (less h) i s = ⊎_elim (here h) (λ j. up (s j)) (Memᴰ.cases_cons i)
      go false x i s = up (s i)

  edges_in : (k : ℕ) (g : Graph) (j f t : ℕ) → j < length g → Memᴰ (f, t) (arcsOf (nodeAt g j)) → t < n →
      Memᴰ {A = Edge} (o + (k + j), f, o + t) (inner_edges o n k g)
  edges_in k [] j f t h m l = absurd (omega arith)
  edges_in k (v ∷ vs) zero f t h m l = let e : k + 0 ≡ k = omega arith in
      rw e (Memᴰ.append_left (inner_edges o n (suc k) vs) (arcs_in k (arcsOf v) f t m l))
  edges_in k (v ∷ vs) (suc j) f t h m l = let e : k + suc j ≡ suc k + j = omega arith in
      rw e (Memᴰ.append_right (inner_arcs o n k (arcsOf v)) (edges_in (suc k) vs j f t (omega arith) m l))

  edges_out : (k : ℕ) (g : Graph) (e : Edge) → Memᴰ e (inner_edges o n k g) →
      (j : ℕ) × (t : ℕ) × (j < length g) × (t < n) × Memᴰ (e.1, t) (arcsOf (nodeAt g j)) × (o + (k + j) ≡ e.0) × (o + t ≡ e.2)
  edges_out k [] e m = absurd (Memᴰ.not-nil m)
  edges_out k (v ∷ vs) e m = go (Memᴰ.append_cases (inner_arcs o n k (arcsOf v)) m) (edges_out (suc k) vs e)
    where
      Out : ℕ → Graph → Type 0
      Out k g = (j : ℕ) × (t : ℕ) × (j < length g) × (t < n) × Memᴰ (e.1, t) (arcsOf (nodeAt g j))
          × (o + (k + j) ≡ e.0) × (o + t ≡ e.2)

      go : Memᴰ e (inner_arcs o n k (arcsOf v)) ⊎ Memᴰ e (inner_edges o n (suc k) vs) →
          (Memᴰ e (inner_edges o n (suc k) vs) → Out (suc k) vs) → Out k (v ∷ vs)
      go (inl i) s = let (t, l, m, a, b) = arcs_out k (arcsOf v) e i in (0, t, omega arith, l, m, omega arith, b)
      go (inr i) s = let (j, t, h, l, m, a, b) = s i in (suc j, t, omega arith, l, m, omega arith, b)

-- the arcs of both
module _ (g h : Graph) where
  abbrev gs : List Graph
  gs = g ∷ h ∷ []

  pub edge_of : (x : (beside gs).Spot) (f : ℕ) (y : (beside gs).Spot) → (beside gs).Arc x f y →
      Memᴰ {A = Edge} (node_number g h x, f, node_number g h y) (two_edges g h)
  edge_of (inl x) f (inl y) u =
      let d : 0 + (0 + x.0) ≡ x.0 = omega arith in
      let e : 0 + y.0 ≡ y.0 = omega arith in
      Memᴰ.append_left (inner_edges (length g) (length h) 0 h)
      (rw (d, e) at (edges_in 0 (length g) 0 g x.0 f y.0 x.1 u y.1))
  edge_of (inl x) f (inr y) u = absurd u
  edge_of (inr x) f (inl y) u = absurd u
  edge_of (inr (inl x)) f (inr (inl y)) u =
      let d : 0 + x.0 ≡ x.0 = omega arith in
      Memᴰ.append_right (inner_edges 0 (length g) 0 g)
      (rw d at (edges_in (length g) (length h) 0 h x.0 f y.0 x.1 u y.1))
  edge_of (inr (inl x)) f (inr (inr x6)) u = elim x6 [ ]
  edge_of (inr (inr x5)) f (inr y) u = elim x5 [ ]

  pub edge_from : (e : Edge) → Memᴰ e (two_edges g h) → (x : (beside gs).Spot) × (y : (beside gs).Spot) ×
      (node_number g h x ≡ e.0) × (node_number g h y ≡ e.2) × (beside gs).Arc x e.1 y
  edge_from e m = go (Memᴰ.append_cases (inner_edges 0 (length g) 0 g) m)
    where
      go : Memᴰ e (inner_edges 0 (length g) 0 g) ⊎ Memᴰ e (inner_edges (length g) (length h) 0 h) →
          (x : (beside gs).Spot) × (y : (beside gs).Spot) ×
          (node_number g h x ≡ e.0) × (node_number g h y ≡ e.2) × (beside gs).Arc x e.1 y
      go (inl i) = let (j, t, k, l, u, a, b) = edges_out 0 (length g) 0 g e i in (inl (j, k), inl (t, l), omega arith, omega arith, u)
      go (inr i) = let (j, t, k, l, u, a, b) = edges_out (length g) (length h) 0 h e i in
          (inr (inl (j, k)), inr (inl (t, l)), omega arith, b, u)

pub root_rule_in : (g h : Graph) → 0 < length g → 0 < length h → Memᴰ {A = Rule} (0, 0, 0, length g) (root_rules g h)
root_rule_in [] h k l = absurd (omega arith)
root_rule_in (v ∷ g) [] k l = absurd (omega arith)
root_rule_in (v ∷ g) (w ∷ h) k l = Memᴰ.head refl

pub root_rule_from : (g h : Graph) (q : Rule) → Memᴰ q (root_rules g h) →
    (0 < length g) × (0 < length h) × (◌≡◌ {A = Rule} q (0, 0, 0, length g))
root_rule_from [] h q m = absurd (Memᴰ.not-nil m)
root_rule_from (v ∷ g) [] q m = absurd (Memᴰ.not-nil m)
root_rule_from (v ∷ g) (w ∷ h) q m = (omega arith, omega arith, Memᴰ.eq_of_singleton m)
