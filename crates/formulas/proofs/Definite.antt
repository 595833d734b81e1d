-- The program that joins a part and the classes of its nodes are one.
-- Assumes nothing.
use mathlib.Core.Path.{◌≡◌, refl, ap, sym, ◌∙◌, subst}
use mathlib.Core.Logic.{◌⊎◌, inl, inr, ◌↔◌}
use mathlib.Core.Bool.{Bool, true, false}
use mathlib.Core.Option.{Option, none, some}
use mathlib.Core.List.Memᴰ
use mathlib.Core.List.{List, ◌++◌, Memᴰ}
use Prim.Native.Nat.{ℕ}
use native.Mathlib.Omega.{arith}
use Rattle.theory.specs.Net.{Graph, Net, Same, seed, self, along}
use Rattle.theory.specs.Join.{Edge, Rule, labels, seed_rules, edge_rules, clashes, order, graph_for, edges, atom_list, root_seeds}
use Rattle.theory.proofs.Meaning.{joined_agrees}
use Rattle.theory.proofs.Unique.{joined_same}
use Rattle.theory.proofs.Close.{Kept, Good, Closed, labels_good}
use Rattle.theory.proofs.Correct.{ClashView, no_clash, clash_view, Coded, clash_found, joined_ok}
use Rattle.theory.proofs.Instance.{AllCanonical, code, code_one, edge_rule_in, edge_rule_from, seed_rule_in, seed_rule_from, edge_of}
use Rattle.theory.proofs.Instance.{edge_from, atom_in, atom_from, root_in, root_from, reach}
use Rattle.formulas.specs.Part.{Fact, whole, part, Shared, seeds, PartClashes, Definite, shared_ends, part_rules, part_graph}
use Rattle.formulas.proofs.Chains.{whole_canonical, first, ends_in, ends_from}

abbrev Pair : Type 0
Pair = ℕ × ℕ

module _ (F : List Fact) (gs : List Graph) (can : AllCanonical gs) where
  abbrev ws : List Graph
  ws = whole F gs

  abbrev N : Net
  N = part F gs

  abbrev Seed : N.Spot → N.Spot → Type 0
  Seed = seeds F gs

  cans : AllCanonical ws
  cans = whole_canonical F gs can

  abbrev firsts : List Pair
  firsts = root_seeds 0 ws ++ shared_ends 1 F

  shared_in : (x y : N.Spot) → Shared F gs x y → Memᴰ {A = Pair} (code 0 ws x, code 0 ws y) (shared_ends 1 F)
  shared_in (inl x) y e = absurd e
  shared_in (inr x) (inl y) e = absurd e
  shared_in (inr x) (inr y) e = ends_in 1 F gs x y e

  abbrev Tied : Pair → Type 0
  Tied p = (x : N.Spot) × (y : N.Spot) × (code 0 ws x ≡ p.0) × (code 0 ws y ≡ p.1) × Same N Seed x y

  seed_of : (p : Pair) → Memᴰ p firsts → Tied p
  seed_of p m = go (Memᴰ.append_cases (root_seeds 0 ws) m)
    where
      go : Memᴰ p (root_seeds 0 ws) ⊎ Memᴰ p (shared_ends 1 F) → Tied p
      go (inl i) = let (y, r, a, b) = root_from 0 ws cans p i in (first F gs, y, b, a, seed (inl (refl, r)))
      go (inr i) = let (x, y, a, b, e) = ends_from 1 F gs p i in (inr x, inr y, a, b, seed (inr e))

  abbrev es : List Edge
  es = edges 0 ws

  abbrev rs : List Rule
  rs = part_rules F gs

  rule_holds : (q : Rule) → Memᴰ q rs → (x : N.Spot) × (y : N.Spot) × (u : N.Spot) × (v : N.Spot) ×
      (code 0 ws x ≡ q.0) × (code 0 ws y ≡ q.1) × (code 0 ws u ≡ q.2) × (code 0 ws v ≡ q.3) × (Same N Seed x y → Same N Seed u v)
  rule_holds q m = go (Memᴰ.append_cases (seed_rules firsts) m)
    where
      Out : Type 0
      Out = (x : N.Spot) × (y : N.Spot) × (u : N.Spot) × (v : N.Spot) ×
          (code 0 ws x ≡ q.0) × (code 0 ws y ≡ q.1) × (code 0 ws u ≡ q.2) × (code 0 ws v ≡ q.3) × (Same N Seed x y → Same N Seed u v)

      go : Memᴰ q (seed_rules firsts) ⊎ Memᴰ q (edge_rules es es) → Out
      go (inl i) =
          let (p, j, e) = seed_rule_from firsts q i in
          let (x, y, a, b, s) = seed_of p j in (
            x,
            x,
            x,
            y,
            a ∙ sym (ap (λ (z : Rule). z.0) e),
            a ∙ sym (ap (λ (z : Rule). z.1) e),
            a ∙ sym (ap (λ (z : Rule). z.2) e),
            b
                ∙ sym (ap (λ (z : Rule). z.3) e),
            λ t. s,
          )
      go (inr i) =
          let (e, d, j, k, h, p) = edge_rule_from es es q i in
          let (x, x', a, a', u) = edge_from 0 ws cans e j in
          let (y, y', b, b', v) = edge_from 0 ws cans d k in (
            x,
            y,
            x',
            y',
            a ∙ sym (ap (λ (z : Rule). z.0) p),
            b ∙ sym (ap (λ (z : Rule). z.1) p),
            a' ∙ sym (ap (λ (z : Rule). z.2) p),
            b' ∙ sym (ap (λ (z : Rule). z.3) p),
            λ s. along s e.1 u (subst (λ (f : ℕ). N.Arc y f y') (sym h) v),
          )

  module _ (lab : ℕ → ℕ) (k : (q : Rule) → Memᴰ q rs → Kept lab q) where
    first_lab : (p : Pair) → Memᴰ p firsts → lab p.0 ≡ lab p.1
    first_lab p m = k (p.0, p.0, p.0, p.1) (Memᴰ.append_left (edge_rules es es) (seed_rule_in firsts p m)) refl

    root_lab : (x : N.Spot) → N.Root x → lab 0 ≡ lab (code 0 ws x)
    root_lab x r = first_lab (0, code 0 ws x) (Memᴰ.append_left (shared_ends 1 F) (root_in 0 ws x r))

    seed_lab : (x y : N.Spot) → Seed x y → lab (code 0 ws x) ≡ lab (code 0 ws y)
    seed_lab x y (inl s) = sym (root_lab x s.0) ∙ root_lab y s.1
    seed_lab x y (inr s) = first_lab (code 0 ws x, code 0 ws y) (Memᴰ.append_right (root_seeds 0 ws) (shared_in x y s))

  coded : Coded N Seed rs es (atom_list 0 ws)
  coded = record {
    ruled = record {
      code = code 0 ws;
      code_one = λ x y e. subst (λ (z : N.Spot). Same N Seed x z) (code_one 0 ws x y e) (self x);
      rule_holds = rule_holds;
      seed_rule = seed_lab;
      arc_rule = λ x f x' y y' u v. Memᴰ.append_right (seed_rules firsts)
          (edge_rule_in es es (code 0 ws x, f, code 0 ws x') (code 0 ws y, f, code 0 ws y') (edge_of 0 ws x f x' u)
          (edge_of 0 ws y f y' v) refl);
    };
    edge_of = edge_of 0 ws;
    edge_from = edge_from 0 ws cans;
    atom_in = atom_in 0 ws;
    atom_from = atom_from 0 ws;
    start = (first F gs, refl, refl);
    roots_same = λ x y r q. seed (inl (r, q));
    reach = reach ws cans;
  }

  -- what the program answers
  pub data Answer : Option Graph → Type 0 where
    is_definite : (G : Graph) → Definite F gs G → Answer (some G)
    is_clash : PartClashes F gs → Answer none

  pub definite_answers : Answer (part_graph F gs)
  unfolding part_graph
  definite_answers = go (clashes lab at at es) (clash_view lab at es at)
    where
      lab : ℕ → ℕ
      lab = labels rs

      at : List Pair
      at = atom_list 0 ws

      good : Good N Seed rs coded.ruled lab × Closed N Seed rs coded.ruled lab
      good = labels_good N Seed rs coded.ruled

      go : (t : Bool) → ClashView lab at es at t →
          Answer (elim t [ true ↦ none | false ↦ some (graph_for lab at es (order lab es) (order lab es)) ])
      go true v = is_clash (clash_found N Seed rs es at coded lab good.0 good.1 v)
      go false (no_clash a b) =
          is_definite (graph_for lab at es (order lab es) (order lab es)) (joined_ok N Seed rs es at coded lab good.0 good.1 a b)

  definite_unique : (G H : Graph) → Definite F gs G → Definite F gs H → G ≡ H
  definite_unique G H j k = joined_same N Seed G H j k (first F gs) refl

  pub definite_iff : (G : Graph) → (part_graph F gs ≡ some G) ↔ Definite F gs G
  definite_iff G = (to (part_graph F gs) definite_answers, from (part_graph F gs) definite_answers)
    where
      to : (o : Option Graph) → Answer o → o ≡ some G → Definite F gs G
      to (some H) (is_definite K j) e = let d : H ≡ G = cc in subst (Definite F gs) d j
      to none (is_clash k) e = let z : ◌≡◌ {A = ℕ} 0 1 = cc in absurd (omega arith)

      from : (o : Option Graph) → Answer o → Definite F gs G → o ≡ some G
      from (some H) (is_definite K i) j = ap {B = Option Graph} some (definite_unique H G i j)
      from none (is_clash k) j = absurd (joined_agrees N Seed G j k)

  pub clashes_iff : (part_graph F gs ≡ none) ↔ PartClashes F gs
  clashes_iff = (to (part_graph F gs) definite_answers, from (part_graph F gs) definite_answers)
    where
      to : (o : Option Graph) → Answer o → ◌≡◌ {A = Option Graph} o none → PartClashes F gs
      to (some H) (is_definite K j) e = let z : ◌≡◌ {A = ℕ} 0 1 = cc in absurd (omega arith)
      to none (is_clash k) e = k

      from : (o : Option Graph) → Answer o → PartClashes F gs → ◌≡◌ {A = Option Graph} o none
      from (some H) (is_definite K i) k = absurd (joined_agrees N Seed H i k)
      from none (is_clash k') k = refl
