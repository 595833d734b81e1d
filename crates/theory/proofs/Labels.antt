-- The labels of the rules are the classes of two graphs: two nodes are equal exactly when they have one label.
-- Assumes nothing.
use mathlib.Core.Path.{◌≡◌, refl, ap, sym, ◌∙◌, subst}
use mathlib.Core.Logic.{◌⊎◌, inl, inr}
use mathlib.Core.List.Memᴰ
use mathlib.Core.List.{List, [], ◌∷◌, Memᴰ}
use Prim.Native.Nat.{ℕ, ◌+◌, ◌<◌}
use native.Mathlib.Omega.{arith}
use lib.ListN.{length}
use Rattle.theory.specs.Net.{Graph, Net, NodeOf, beside, roots, Same, seed, self, along}
use Rattle.theory.specs.Join.{Edge, Rule, edge_rules, labels, atom_list}
use Rattle.theory.proofs.Close.{Kept, Ruled, labels_good, complete}
use Rattle.theory.proofs.Instance.{edge_rule_in, edge_rule_from, atom_in, atom_from}
use Rattle.theory.specs.ClashNode.{node_number}
use Rattle.theory.specs.Located.{two_edges, root_rules, two_rules}
use Rattle.theory.proofs.NodeNumbers.{number_code, number_one}
use Rattle.theory.proofs.Edges.{edge_of, edge_from, root_rule_in, root_rule_from}

-- labels that are the classes of a net, its atoms and its arcs by the numbers of its spots
pub record Labelled (N : Net) (Seed : N.Spot → N.Spot → Type 0) (number : N.Spot → ℕ) (lab : ℕ → ℕ) (at : List (ℕ × ℕ))
    (es : List Edge) : Type 0 where
  pub together : {x y : N.Spot} → Same N Seed x y → lab (number x) ≡ lab (number y)
  pub apart : (x y : N.Spot) → lab (number x) ≡ lab (number y) → Same N Seed x y
  pub atom_in : (x : N.Spot) (a : ℕ) → N.Atom x a → Memᴰ (number x, a) at
  pub atom_from : (p : ℕ × ℕ) → Memᴰ p at → (x : N.Spot) × (number x ≡ p.0) × N.Atom x p.1
  pub edge_of : (x : N.Spot) (f : ℕ) (y : N.Spot) → N.Arc x f y → Memᴰ (number x, f, number y) es
  pub edge_from : (e : Edge) → Memᴰ e es →
      (x : N.Spot) × (y : N.Spot) × (number x ≡ e.0) × (number y ≡ e.2) × N.Arc x e.1 y

module _ (g h : Graph) where
  abbrev gs : List Graph
  gs = g ∷ h ∷ []

  abbrev N : Net
  N = beside gs

  abbrev number : N.Spot → ℕ
  number = node_number g h

  rule_holds : (q : Rule) → Memᴰ q (two_rules g h) → (x : N.Spot) × (y : N.Spot) × (u : N.Spot) × (v : N.Spot) ×
      (number x ≡ q.0) × (number y ≡ q.1) × (number u ≡ q.2) × (number v ≡ q.3) × (Same N (roots N) x y → Same N (roots N) u v)
  rule_holds q m = go (Memᴰ.append_cases (root_rules g h) m)
    where
      Out : Type 0
      Out = (x : N.Spot) × (y : N.Spot) × (u : N.Spot) × (v : N.Spot) ×
          (number x ≡ q.0) × (number y ≡ q.1) × (number u ≡ q.2) × (number v ≡ q.3) × (Same N (roots N) x y → Same N (roots N) u v)

      go : Memᴰ q (root_rules g h) ⊎ Memᴰ q (edge_rules (two_edges g h) (two_edges g h)) → Out
      go (inl i) =
          let (k, l, e) = root_rule_from g h q i in
          let x : N.Spot = inl (0, k) in
          let y : N.Spot = inr (inl (0, l)) in (
            x,
            x,
            x,
            y,
            sym (ap (λ (z : Rule). z.0) e),
            sym (ap (λ (z : Rule). z.1) e),
            sym (ap (λ (z : Rule). z.2) e),
            omega (arith, ap (λ (z : Rule). z.3) e),
            λ s. seed (refl, refl),
          )
      go (inr i) =
          let (e, d, j, k, f, p) = edge_rule_from (two_edges g h) (two_edges g h) q i in
          let (x, x', a, a', u) = edge_from g h e j in
          let (y, y', b, b', v) = edge_from g h d k in (
            x,
            y,
            x',
            y',
            a ∙ sym (ap (λ (z : Rule). z.0) p),
            b ∙ sym (ap (λ (z : Rule). z.1) p),
            a' ∙ sym (ap (λ (z : Rule). z.2) p),
            b' ∙ sym (ap (λ (z : Rule). z.3) p),
            λ s. along s e.1 u (subst (λ (f : ℕ). N.Arc y f y') (sym f) v),
          )

  -- under labels that keep the rules all roots have one label
  module _ (lab : ℕ → ℕ) (keeps : (q : Rule) → Memᴰ q (two_rules g h) → Kept lab q) where
    roots_meet : (x : NodeOf g) (y : NodeOf h) → x.0 ≡ 0 → y.0 ≡ 0 → lab x.0 ≡ lab (length g + y.0)
    roots_meet x y r s =
        let a : 0 < length g = omega (arith, x.1) in
        let b : 0 < length h = omega (arith, y.1) in
        let e : length g ≡ length g + y.0 = omega arith in
        let m = Memᴰ.append_left (edge_rules (two_edges g h) (two_edges g h)) (root_rule_in g h a b) in
        ap lab r ∙ keeps (0, 0, 0, length g) m refl ∙ ap lab e

    root_label : (x y : N.Spot) → N.Root x → N.Root y → lab (number x) ≡ lab (number y)
    root_label (inl x) (inl y) r s = ap lab (r ∙ sym s)
    root_label (inl x) (inr (inl y)) r s = roots_meet x y r s
    root_label (inr (inl x)) (inl y) r s = sym (roots_meet y x s r)
    root_label (inr (inl x)) (inr (inl y)) r s = ap (λ (i : ℕ). lab (length g + i)) (r ∙ sym s)
    root_label (inl x) (inr (inr x7)) r s = elim x7 [ ]
    root_label (inr (inl x)) (inr (inr x7)) r s = elim x7 [ ]
    root_label (inr (inr x6)) y r s = elim x6 [ ]

  ruled : Ruled N (roots N) (two_rules g h)
  ruled = record {
    code = number;
    code_one = λ x y e. subst (λ (z : N.Spot). Same N (roots N) x z) (number_one g h x y e) (self x);
    rule_holds = rule_holds;
    seed_rule = λ lab k x y s. root_label lab k x y s.0 s.1;
    arc_rule = λ x f x' y y' u v. Memᴰ.append_right (root_rules g h)
        (edge_rule_in (two_edges g h) (two_edges g h) (number x, f, number x') (number y, f, number y') (edge_of g h x f x' u)
        (edge_of g h y f y' v) refl);
  }

  pub labelled : Labelled N (roots N) number (labels (two_rules g h)) (atom_list 0 gs) (two_edges g h)
  unfolding ruled
  labelled = let good = labels_good N (roots N) (two_rules g h) ruled in record {
    together = complete N (roots N) (two_rules g h) ruled (labels (two_rules g h)) good.1;
    apart = good.0.sound;
    atom_in = λ x a u. rw (number_code g h x) at (atom_in 0 gs x a u);
    atom_from = λ p m. let (x, e, u) = atom_from 0 gs p m in (x, sym (number_code g h x) ∙ e, u);
    edge_of = edge_of g h;
    edge_from = edge_from g h;
  }
