-- A table given by lists of arcs, atoms and shared pairs: any labels that are closed and justified give the graph of the part.
-- Assumes nothing.
use mathlib.Core.Path.{◌≡◌, refl, ap, sym, ◌∙◌, subst}
use mathlib.Core.Logic.{◌⊎◌, inl, inr}
use mathlib.Core.Bool.{Bool, true, false}
use mathlib.Core.Option.{none, some}
use mathlib.Core.List.Memᴰ
use mathlib.Core.List.{List, [], ◌++◌, Memᴰ}
use Prim.Native.Nat.{ℕ, zero, suc, ◌≤◌}
use native.Mathlib.Omega.{arith}
use Rattle.theory.specs.Net.{Net, Same, seed, along}
use Rattle.theory.specs.Join.{Edge, Rule, seed_rules, edge_rules, clashes, order, graph_for, join_with}
use Rattle.theory.proofs.Close.{Kept, Good, Closed}
use Rattle.theory.proofs.Correct.{ClashView, no_clash, clash_view, Coded, clash_found, joined_ok}
use Rattle.theory.proofs.Instance.{edge_rule_in, edge_rule_from, seed_rule_in, seed_rule_from}
use Rattle.formulas.specs.Part.{Fact, part_graph}
use Rattle.formulas.specs.Sheet.{Member, Rooted}
use Rattle.formulas.proofs.Spots.{Table, spots, shared, Tells, spots_definite, spots_clash}

abbrev Pair : Type 0
Pair = ℕ × ℕ

-- the arcs of the members, each from its parent; their atoms; the shared pairs
module _ (es : List Edge) (at : List Pair) (ts : List Pair) where
  abbrev pub rows : Table
  rows = record {
    Member = Member es;
    Edge = λ i f j. Memᴰ {A = Edge} (i, f, j) es;
    Bears =
        λ i a. Memᴰ {A = Pair} (i, a) at;
    Shares = λ i j. Memᴰ {A = Pair} (i, j) ts;
  }

  abbrev pub row_rules : List Rule
  row_rules = seed_rules ts ++ edge_rules es es

  module _ (w : Rooted es at ts) where
    abbrev N : Net
    N = spots rows

    abbrev Seed : N.Spot → N.Spot → Type 0
    Seed = shared rows

    -- an arc with its ends
    abbrev to_end : (e : Edge) → Memᴰ e es → N.Spot
    to_end e m = (e.2, inr (e, m, refl))

    abbrev from_end : (e : Edge) → Memᴰ e es → N.Spot
    from_end e m = (e.0, (w.from e m).0)

    -- every member is reached from the root
    climb : (P : N.Spot → Type 0) → ((x : N.Spot) → x.0 ≡ 0 → P x) → ((x : N.Spot) (f : ℕ) (y : N.Spot) → P x → N.Arc x f y → P y) →
        (n i : ℕ) → i ≤ n → (m : Member es i) → P (i, m)
    climb P r s zero i l m = r (i, m) (omega arith)
    climb P r s (suc n) i l m = go m (climb P r s n)
      where
        go : (m : Member es i) → ((j : ℕ) → j ≤ n → (q : Member es j) → P (j, q)) → P (i, m)
        go (inl e) c = r (i, inl e) e
        go (inr (e, k, h)) c =
            let (q, b) = w.from e k in
            s (e.0, q) e.1 (i, inr (e, k, h)) (c e.0 (omega (arith, b, h)) q)
            (subst (λ (z : ℕ). Memᴰ {A = Edge} (e.0, e.1, z) es) h k)

    reached : (P : N.Spot → Type 0) → ((x : N.Spot) → N.Root x → P x) →
        ((x : N.Spot) (f : ℕ) (y : N.Spot) → P x → N.Arc x f y → P y) → (x : N.Spot) → P x
    reached P r s x = climb P r s x.0 x.0 (omega arith) x.1

    -- spots of one number are equal
    pub alike : (x y : N.Spot) → x.0 ≡ y.0 → Same N Seed x y
    alike = reached (λ x. (y : N.Spot) → x.0 ≡ y.0 → Same N Seed x y) (λ x r y e. seed (inl (r, sym e ∙ r)))
        (λ x f y p u z e. along (p x refl) f u (subst (λ (k : ℕ). Memᴰ {A = Edge} (x.0, f, k) es) e u))

    abbrev Out : Rule → Type 0
    Out q = (x : N.Spot) × (y : N.Spot) × (u : N.Spot) × (v : N.Spot) × (x.0 ≡ q.0) × (y.0 ≡ q.1) × (u.0 ≡ q.2) × (v.0 ≡ q.3)
        × (Same N Seed x y → Same N Seed u v)

    rule_holds : (q : Rule) → Memᴰ q row_rules → Out q
    rule_holds q m = go (Memᴰ.append_cases (seed_rules ts) m)
      where
        go : Memᴰ q (seed_rules ts) ⊎ Memᴰ q (edge_rules es es) → Out q
        go (inl i) =
            let (p, j, e) = seed_rule_from ts q i in
            let (a, b) = w.sharers p j in
            let x : N.Spot = (p.0, a) in
            let y : N.Spot = (p.1, b) in (
              x,
              x,
              x,
              y,
              sym (ap (λ (z : Rule). z.0) e),
              sym (ap (λ (z : Rule). z.1) e),
              sym (ap (λ (z : Rule). z.2) e),
              sym (ap (λ (z : Rule). z.3) e),
              λ t. seed (inr j),
            )
        go (inr i) =
            let (e, d, j, k, h, p) = edge_rule_from es es q i in (
              from_end e j,
              from_end d k,
              to_end e j,
              to_end d k,
              sym (ap (λ (z : Rule). z.0) p),
              sym (ap (λ (z : Rule). z.1) p),
              sym (ap (λ (z : Rule). z.2) p),
              sym (ap (λ (z : Rule). z.3) p),
              λ s. along s e.1 j (subst (λ (f : ℕ). Memᴰ {A = Edge} (d.0, f, d.2) es) (sym h) k),
            )

    seed_lab : (lab : ℕ → ℕ) → ((q : Rule) → Memᴰ q row_rules → Kept lab q) → (x y : N.Spot) → Seed x y → lab x.0 ≡ lab y.0
    seed_lab lab k x y (inl r) = ap lab (r.0 ∙ sym r.1)
    seed_lab lab k x y (inr s) = k (x.0, x.0, x.0, y.0) (Memᴰ.append_left (edge_rules es es) (seed_rule_in ts (x.0, y.0) s)) refl

    pub row_coded : Coded N Seed row_rules es at
    row_coded = record {
      ruled = record {
        code = λ x. x.0;
        code_one = alike;
        rule_holds = rule_holds;
        seed_rule = seed_lab;
        arc_rule = λ x f x' y y' u v. Memᴰ.append_right (seed_rules ts) (edge_rule_in es es (x.0, f, x'.0) (y.0, f, y'.0) u v refl);
      };
      edge_of = λ x f y u. u;
      edge_from = λ e m. (from_end e m, to_end e m, refl, refl, m);
      atom_in = λ x a u. u;
      atom_from = λ p m. ((p.0, w.bearer p m), refl, m);
      start = ((0, inl refl), refl, refl);
      roots_same = λ x y r q. seed (inl (r, q));
      reach = reached;
    }

    -- whatever the labels, if they are closed and justified
    pub rows_definite : (F : List Fact) → Tells rows F → (lab : ℕ → ℕ) → Good N Seed row_rules row_coded.ruled lab →
        Closed N Seed row_rules row_coded.ruled lab → part_graph F [] ≡ join_with lab at es
    rows_definite F t lab g k = go (clashes lab at at es) (clash_view lab at es at)
      where
        go : (b : Bool) → ClashView lab at es at b →
            part_graph F [] ≡ elim b [ true ↦ none | false ↦ some (graph_for lab at es (order lab es) (order lab es)) ]
        go true v = spots_clash rows F t (clash_found N Seed row_rules es at row_coded lab g k v)
        go false (no_clash a b) =
            spots_definite rows F t (graph_for lab at es (order lab es) (order lab es))
            (joined_ok N Seed row_rules es at row_coded lab g k a b)
