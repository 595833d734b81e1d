-- The nodes of several canonical graphs side by side, as numbers; and `join`.
-- Assumes nothing.
use mathlib.Core.Path.{◌≡◌, refl, ap, sym, ◌∙◌, subst}
use mathlib.Core.Logic.{◌⊎◌, inl, inr, ⊎_elim, ◌↔◌}
use mathlib.Core.HLevel.{Σ_prop_path}
use mathlib.Core.Bool.{Bool, true, false}
use mathlib.Core.Option.{Option, none, some}
use mathlib.Core.List.Memᴰ
use mathlib.Core.List.{List, [], ◌∷◌, ◌++◌, Memᴰ}
use Prim.Native.Nat.{ℕ, zero, suc, ◌+◌, ◌≤◌, ◌<◌, max}
use native.Mathlib.Bridge.{le_prop}
use native.Mathlib.Omega.{arith}
use lib.ListN.{length}
use lib.Dec.{eqb}
use Rattle.descriptions.specs.Canonical.{All}
use Rattle.theory.specs.Net.{Node, atom, arcs, Graph, nodeAt, arcsOf, Net, beside, roots, Same, seed, self, along, Clash, InOrder}
use Rattle.theory.specs.Net.{met, Numbered, Canonical, Joined}
use Rattle.theory.proofs.Meaning.{canonical_some, joined_agrees}
use Rattle.theory.proofs.Unique.{joined_unique}
use Rattle.theory.specs.Join.{Edge, Rule, labels, seed_rules, pair_rules, edge_rules, clashes, order, graph_for, arcs_from}
use Rattle.theory.specs.Join.{edges_from, edges, atom_at, atoms_from, atom_list, root_seeds, rules, join}
use Rattle.theory.proofs.Close.{Kept, Good, Closed, labels_good}
use Rattle.descriptions.proofs.Tests.{Test, equal, differ, test}
use Rattle.theory.proofs.Number.{TestLt, less, geq, test_lt}
use Rattle.theory.proofs.Correct.{ClashView, no_clash, clash_view, Coded, clash_found, joined_ok}

abbrev Arc : Type 0
Arc = ℕ × ℕ

-- rules of edges
pair_in : (e d : Edge) (l : List Edge) → Memᴰ d l → e.1 ≡ d.1 → Memᴰ {A = Rule} (e.0, d.0, e.2, d.2) (pair_rules e l)
pair_in e d [] m h = absurd (Memᴰ.not-nil m)
pair_in e d (c ∷ l) m h = go (eqb e.1 c.1) (test e.1 c.1) (Memᴰ.cases_cons m) (pair_in e d l)
  where
    go : (t : Bool) → Test e.1 c.1 t → (d ≡ c) ⊎ Memᴰ d l →
        (Memᴰ d l → e.1 ≡ d.1 → Memᴰ {A = Rule} (e.0, d.0, e.2, d.2) (pair_rules e l)) →
        Memᴰ {A = Rule} (e.0, d.0, e.2, d.2) (elim t [ true ↦ (e.0, c.0, e.2, c.2) ∷ pair_rules e l | false ↦ pair_rules e l ])
    go true (equal p) (inl i) s = Memᴰ.head (ap (λ (z : Edge). (e.0, z.0, e.2, z.2)) i)
    go true (equal p) (inr i) s = Memᴰ.tail (s i h)
    go false (differ n) (inl i) s = absurd (n (h ∙ ap (λ (z : Edge). z.1) i))
    go false (differ n) (inr i) s = s i h

pair_from : (e : Edge) (l : List Edge) (q : Rule) → Memᴰ q (pair_rules e l) →
    (d : Edge) × Memᴰ d l × (e.1 ≡ d.1) × (◌≡◌ {A = Rule} q (e.0, d.0, e.2, d.2))
pair_from e [] q m = absurd (Memᴰ.not-nil m)
pair_from e (c ∷ l) q m = go (eqb e.1 c.1) (test e.1 c.1) m (pair_from e l q)
  where
    Out : List Edge → Type 0
    Out l = (d : Edge) × Memᴰ d l × (e.1 ≡ d.1) × (◌≡◌ {A = Rule} q (e.0, d.0, e.2, d.2))

    up : Out l → Out (c ∷ l)
    up (d, i, h, k) = (d, Memᴰ.tail i, h, k)

    go : (t : Bool) → Test e.1 c.1 t →
        Memᴰ q (elim t [ true ↦ (e.0, c.0, e.2, c.2) ∷ pair_rules e l | false ↦ pair_rules e l ]) →
        (Memᴰ q (pair_rules e l) → Out l) → Out (c ∷ l)
    go true (equal p) i s = ⊎_elim (λ k. (c, Memᴰ.head refl, p, k)) (λ j. up (s j)) (Memᴰ.cases_cons i)
    go false (differ n) i s = up (s i)

pub edge_rule_in : (k l : List Edge) (e d : Edge) → Memᴰ e k → Memᴰ d l → e.1 ≡ d.1 →
    Memᴰ {A = Rule} (e.0, d.0, e.2, d.2) (edge_rules k l)
edge_rule_in [] l e d m n h = absurd (Memᴰ.not-nil m)
edge_rule_in (c ∷ k) l e d m n h = go (Memᴰ.cases_cons m) (edge_rule_in k l e d)
  where
    go : (e ≡ c) ⊎ Memᴰ e k →
        (Memᴰ e k → Memᴰ d l → e.1 ≡ d.1 → Memᴰ {A = Rule} (e.0, d.0, e.2, d.2) (edge_rules k l)) →
        Memᴰ {A = Rule} (e.0, d.0, e.2, d.2) (pair_rules c l ++ edge_rules k l)
    go (inl i) s = Memᴰ.append_left (edge_rules k l)
        (subst (λ (z : Edge). Memᴰ {A = Rule} (e.0, d.0, e.2, d.2) (pair_rules z l)) i (pair_in e d l n h))
    go (inr i) s = Memᴰ.append_right (pair_rules c l) (s i n h)

pub edge_rule_from : (k l : List Edge) (q : Rule) → Memᴰ q (edge_rules k l) →
    (e : Edge) × (d : Edge) × Memᴰ e k × Memᴰ d l × (e.1 ≡ d.1) × (◌≡◌ {A = Rule} q (e.0, d.0, e.2, d.2))
edge_rule_from [] l q m = absurd (Memᴰ.not-nil m)
edge_rule_from (c ∷ k) l q m = go (Memᴰ.append_cases (pair_rules c l) m) (edge_rule_from k l q)
  where
    Out : List Edge → Type 0
    Out k = (e : Edge) × (d : Edge) × Memᴰ e k × Memᴰ d l × (e.1 ≡ d.1) × (◌≡◌ {A = Rule} q (e.0, d.0, e.2, d.2))

    up : Out k → Out (c ∷ k)
    up (e, d, i, j, h, p) = (e, d, Memᴰ.tail i, j, h, p)

    go : Memᴰ q (pair_rules c l) ⊎ Memᴰ q (edge_rules k l) → (Memᴰ q (edge_rules k l) → Out k) → Out (c ∷ k)
    go (inl i) s = let (d, j, h, p) = pair_from c l q i in (c, d, Memᴰ.head refl, j, h, p)
    go (inr i) s = up (s i)

pub seed_rule_in : (l : List Arc) (p : Arc) → Memᴰ p l → Memᴰ {A = Rule} (p.0, p.0, p.0, p.1) (seed_rules l)
seed_rule_in [] p m = absurd (Memᴰ.not-nil m)
seed_rule_in (r ∷ l) p m = go (Memᴰ.cases_cons m) (seed_rule_in l p)
  where
    go : (p ≡ r) ⊎ Memᴰ p l → (Memᴰ p l → Memᴰ {A = Rule} (p.0, p.0, p.0, p.1) (seed_rules l)) →
        Memᴰ {A = Rule} (p.0, p.0, p.0, p.1) (seed_rules (r ∷ l))
    go (inl e) s = Memᴰ.head (ap (λ (z : Arc). (z.0, z.0, z.0, z.1)) e)
    go (inr i) s = Memᴰ.tail (s i)

pub seed_rule_from : (l : List Arc) (q : Rule) → Memᴰ q (seed_rules l) →
    (p : Arc) × Memᴰ p l × (◌≡◌ {A = Rule} q (p.0, p.0, p.0, p.1))
seed_rule_from [] q m = absurd (Memᴰ.not-nil m)
seed_rule_from (r ∷ l) q m = go (Memᴰ.cases_cons m) (seed_rule_from l q)
  where
    go : (◌≡◌ {A = Rule} q (r.0, r.0, r.0, r.1)) ⊎ Memᴰ q (seed_rules l) →
        (Memᴰ q (seed_rules l) → (p : Arc) × Memᴰ p l × (◌≡◌ {A = Rule} q (p.0, p.0, p.0, p.1))) →
        (p : Arc) × Memᴰ p (r ∷ l) × (◌≡◌ {A = Rule} q (p.0, p.0, p.0, p.1))
    go (inl e) s = (r, Memᴰ.head refl, e)
    go (inr i) s = let (p, j, e) = s i in (p, Memᴰ.tail j, e)

-- edges of one graph
arcs_in : (o k : ℕ) (l : List Arc) (f t : ℕ) → Memᴰ (f, t) l → Memᴰ {A = Edge} (o + k, f, o + t) (arcs_from o k l)
arcs_in o k [] f t m = absurd (Memᴰ.not-nil m)
arcs_in o k (p ∷ l) f t m = go (Memᴰ.cases_cons m) (arcs_in o k l f t)
  where
    go : (◌≡◌ {A = Arc} (f, t) p) ⊎ Memᴰ (f, t) l → (Memᴰ (f, t) l → Memᴰ {A = Edge} (o + k, f, o + t) (arcs_from o k l)) →
        Memᴰ {A = Edge} (o + k, f, o + t) (arcs_from o k (p ∷ l))
    go (inl e) s = Memᴰ.head (ap (λ (z : Arc). (o + k, z.0, o + z.1)) e)
    go (inr i) s = Memᴰ.tail (s i)

arcs_out : (o k : ℕ) (l : List Arc) (e : Edge) → Memᴰ e (arcs_from o k l) →
    (t : ℕ) × Memᴰ (e.1, t) l × (o + k ≡ e.0) × (o + t ≡ e.2)
arcs_out o k [] e m = absurd (Memᴰ.not-nil m)
arcs_out o k (p ∷ l) e m = go (Memᴰ.cases_cons m) (arcs_out o k l e)
  where
    go : (◌≡◌ {A = Edge} e (o + k, p.0, o + p.1)) ⊎ Memᴰ e (arcs_from o k l) →
        (Memᴰ e (arcs_from o k l) → (t : ℕ) × Memᴰ (e.1, t) l × (o + k ≡ e.0) × (o + t ≡ e.2)) →
        (t : ℕ) × Memᴰ (e.1, t) (p ∷ l) × (o + k ≡ e.0) × (o + t ≡ e.2)
    go (inl h) s = (p.1, Memᴰ.head (λ i. ((h i).1, p.1)), sym (ap (λ (z : Edge). z.0) h), sym (ap (λ (z : Edge). z.2) h))
    go (inr i) s = let (t, j, a, b) = s i in (t, Memᴰ.tail j, a, b)

edges_in : (o k : ℕ) (g : Graph) (n f t : ℕ) → n < length g → Memᴰ (f, t) (arcsOf (nodeAt g n)) →
    Memᴰ {A = Edge} (o + (k + n), f, o + t) (edges_from o k g)
edges_in o k [] n f t h m = absurd (omega arith)
edges_in o k (v ∷ vs) zero f t h m = let e : k + 0 ≡ k = omega arith in
    rw e (Memᴰ.append_left (edges_from o (suc k) vs) (arcs_in o k (arcsOf v) f t m))
edges_in o k (v ∷ vs) (suc n) f t h m = let e : k + suc n ≡ suc k + n = omega arith in
    rw e (Memᴰ.append_right (arcs_from o k (arcsOf v)) (edges_in o (suc k) vs n f t (omega arith) m))

edges_out : (o k : ℕ) (g : Graph) (e : Edge) → Memᴰ e (edges_from o k g) →
    (n : ℕ) × (t : ℕ) × (n < length g) × Memᴰ (e.1, t) (arcsOf (nodeAt g n)) × (o + (k + n) ≡ e.0) × (o + t ≡ e.2)
edges_out o k [] e m = absurd (Memᴰ.not-nil m)
edges_out o k (v ∷ vs) e m = go (Memᴰ.append_cases (arcs_from o k (arcsOf v)) m) (edges_out o (suc k) vs e)
  where
    Out : ℕ → Graph → Type 0
    Out k g = (n : ℕ) × (t : ℕ) × (n < length g) × Memᴰ (e.1, t) (arcsOf (nodeAt g n)) × (o + (k + n) ≡ e.0) × (o + t ≡ e.2)

    go : Memᴰ e (arcs_from o k (arcsOf v)) ⊎ Memᴰ e (edges_from o (suc k) vs) →
        (Memᴰ e (edges_from o (suc k) vs) → Out (suc k) vs) → Out k (v ∷ vs)
    go (inl i) s = let (t, j, a, b) = arcs_out o k (arcsOf v) e i in (0, t, omega arith, j, omega arith, b)
    go (inr i) s = let (n, t, h, j, a, b) = s i in (suc n, t, omega arith, j, omega arith, b)

atoms_in : (o k : ℕ) (g : Graph) (n a : ℕ) → n < length g → nodeAt g n ≡ atom a → Memᴰ {A = Arc} (o + (k + n), a) (atoms_from o k g)
atoms_in o k [] n a h m = absurd (omega arith)
atoms_in o k (v ∷ vs) zero a h m = let e : k + 0 ≡ k = omega arith in rw (e, m) (Memᴰ.head refl)
atoms_in o k (v ∷ vs) (suc n) a h m = let e : k + suc n ≡ suc k + n = omega arith in
    rw e (Memᴰ.append_right (atom_at (o + k) v) (atoms_in o (suc k) vs n a (omega arith) m))

atom_out : (k : ℕ) (v : Node) (p : Arc) → Memᴰ p (atom_at k v) → (k ≡ p.0) × (v ≡ atom p.1)
atom_out k (atom a) p m = let e = Memᴰ.eq_of_singleton m in (sym (ap (λ (z : Arc). z.0) e), ap (λ (z : Arc). atom z.1) (sym e))
atom_out k (arcs l) p m = absurd (Memᴰ.not-nil m)

atoms_out : (o k : ℕ) (g : Graph) (p : Arc) → Memᴰ p (atoms_from o k g) →
    (n : ℕ) × (n < length g) × (nodeAt g n ≡ atom p.1) × (o + (k + n) ≡ p.0)
atoms_out o k [] p m = absurd (Memᴰ.not-nil m)
atoms_out o k (v ∷ vs) p m = go (Memᴰ.append_cases (atom_at (o + k) v) m) (atoms_out o (suc k) vs p)
  where
    Out : ℕ → Graph → Type 0
    Out k g = (n : ℕ) × (n < length g) × (nodeAt g n ≡ atom p.1) × (o + (k + n) ≡ p.0)

    go : Memᴰ p (atom_at (o + k) v) ⊎ Memᴰ p (atoms_from o (suc k) vs) →
        (Memᴰ p (atoms_from o (suc k) vs) → Out (suc k) vs) → Out k (v ∷ vs)
    go (inl i) s = let (a, b) = atom_out (o + k) v p i in (0, omega arith, b, omega arith)
    go (inr i) s = let (n, h, b, a) = s i in (suc n, omega arith, b, omega arith)

-- canonical graphs: targets are nodes, and every node is reached
pub met_ge : (m : ℕ) (l : List Arc) → m ≤ met m l
met_ge m [] = omega arith
met_ge m (p ∷ l) = omega (arith, met_ge (max m (suc p.1)) l)

met_in : (m : ℕ) (l : List Arc) (f t : ℕ) → Memᴰ (f, t) l → t < met m l
met_in m [] f t i = absurd (Memᴰ.not-nil i)
met_in m (p ∷ l) f t i = go (Memᴰ.cases_cons i) (met_in (max m (suc p.1)) l f t)
  where
    go : (◌≡◌ {A = Arc} (f, t) p) ⊎ Memᴰ (f, t) l → (Memᴰ (f, t) l → t < met (max m (suc p.1)) l) →
        t < met (max m (suc p.1)) l
    go (inl e) s = omega (arith, met_ge (max m (suc p.1)) l, ap (λ (z : Arc). z.1) e)
    go (inr j) s = s j

-- an arc meets one node at most
pub met_few : (m : ℕ) (l : List Arc) → InOrder m l → met m l ≤ m + length l
met_few m [] o = omega arith
met_few m (e ∷ l) o = let h = met_few (max m (suc e.1)) l o.1 in let k = o.0 in omega arith

pub numbered_ge : (k m : ℕ) (g : Graph) → Numbered k m g → m ≤ k + length g
numbered_ge k m [] c = omega arith
numbered_ge k m (v ∷ vs) c = omega (arith, numbered_ge (suc k) (met m (arcsOf v)) vs c.3, met_ge m (arcsOf v))

pub numbered_target : (k m : ℕ) (g : Graph) → Numbered k m g → (n f t : ℕ) → Memᴰ (f, t) (arcsOf (nodeAt g n)) → t < k + length g
numbered_target k m [] c n f t i = absurd (Memᴰ.not-nil i)
numbered_target k m (v ∷ vs) c zero f t i = omega (arith, numbered_ge (suc k) (met m (arcsOf v)) vs c.3, met_in m (arcsOf v) f t i)
numbered_target k m (v ∷ vs) c (suc n) f t i = omega (arith, numbered_target (suc k) (met m (arcsOf v)) vs c.3 n f t i)

module _ (P : ℕ → Type 0) where
  pub met_reach : (m : ℕ) (l : List Arc) → InOrder m l → ((j : ℕ) → j < m → P j) → ((f t : ℕ) → Memᴰ (f, t) l → P t) → (j : ℕ) →
      j < met m l → P j
  met_reach m [] o p s = p
  met_reach m (x ∷ l) o p s = met_reach (max m (suc x.1)) l o.1 (λ j h. go j h (test_lt j m)) (λ f t i. s f t (Memᴰ.tail i))
    where
      go : (j : ℕ) → j < max m (suc x.1) → {t : Bool} → TestLt j m t → P j
      go j h (less g) = p j g
      go j h (geq g) = let o₀ = o.0 in let e : j ≡ x.1 = omega arith in subst P (sym e) (s x.0 x.1 (Memᴰ.head refl))

  numbered_reach : (k m : ℕ) (g : Graph) → Numbered k m g →
      ((n f t : ℕ) → n < length g → P (k + n) → Memᴰ (f, t) (arcsOf (nodeAt g n)) → P t) →
      ((j : ℕ) → j < m → P j) → (j : ℕ) → j < k + length g → P j
  numbered_reach k m [] c s p j h = p j (omega arith)
  numbered_reach k m (v ∷ vs) c s p j h =
      numbered_reach (suc k) (met m (arcsOf v)) vs c.3
      (λ n f t l q i. s (suc n) f t (omega arith) (let e : k + suc n ≡ suc k + n = omega arith in subst P (sym e) q) i)
      (met_reach m (arcsOf v) c.2 p (λ f t i. s 0 f t (omega arith) (let e : k + 0 ≡ k = omega arith in subst P (sym e) (p k c.0)) i))
      j (omega arith)

-- the numbers of the nodes side by side
abbrev pub code : ℕ → (gs : List Graph) → (beside gs).Spot → ℕ
code o (g ∷ gs) (inl n) = o + n.0
code o (g ∷ gs) (inr x) = code (o + length g) gs x
code o [] x'' = elim x'' [ ]

code_low : (o : ℕ) (gs : List Graph) (x : (beside gs).Spot) → o ≤ code o gs x
code_low o (g ∷ gs) (inl n) = omega arith
code_low o (g ∷ gs) (inr x) = omega (arith, code_low (o + length g) gs x)
code_low o [] x = elim x [ ]

pub code_one : (o : ℕ) (gs : List Graph) (x y : (beside gs).Spot) → code o gs x ≡ code o gs y → x ≡ y
code_one o (g ∷ gs) (inl n) (inl m) e = let d : n.0 ≡ m.0 = omega arith in
    ap {B = (beside (g ∷ gs)).Spot} inl (Σ_prop_path (λ k. le_prop) d)
code_one o (g ∷ gs) (inl n) (inr y) e = absurd (omega (arith, code_low (o + length g) gs y, n.1))
code_one o (g ∷ gs) (inr x) (inl m) e = absurd (omega (arith, code_low (o + length g) gs x, m.1))
code_one o (g ∷ gs) (inr x) (inr y) e = ap {B = (beside (g ∷ gs)).Spot} inr (code_one (o + length g) gs x y e)
code_one o [] x y e = elim x [ ]

abbrev pub AllCanonical : List Graph → Type 0
AllCanonical = All Canonical

pub edge_of : (o : ℕ) (gs : List Graph) (x : (beside gs).Spot) (f : ℕ) (y : (beside gs).Spot) → (beside gs).Arc x f y →
    Memᴰ {A = Edge} (code o gs x, f, code o gs y) (edges o gs)
edge_of o (g ∷ gs) (inl n) f (inl m) u =
    Memᴰ.append_left (edges (o + length g) gs) (let e : 0 + n.0 ≡ n.0 = omega arith in rw e at (edges_in o 0 g n.0 f m.0 n.1 u))
edge_of o (g ∷ gs) (inl n) f (inr y) u = absurd u
edge_of o (g ∷ gs) (inr x) f (inl m) u = absurd u
edge_of o (g ∷ gs) (inr x) f (inr y) u = Memᴰ.append_right (edges_from o 0 g) (edge_of (o + length g) gs x f y u)
edge_of o [] x f y u = elim x [ ]

pub edge_from : (o : ℕ) (gs : List Graph) → AllCanonical gs → (e : Edge) → Memᴰ e (edges o gs) →
    (x : (beside gs).Spot) × (y : (beside gs).Spot) × (code o gs x ≡ e.0) × (code o gs y ≡ e.2) × (beside gs).Arc x e.1 y
edge_from o [] c e m = absurd (Memᴰ.not-nil m)
edge_from o (g ∷ gs) c e m = go (Memᴰ.append_cases (edges_from o 0 g) m) (edge_from (o + length g) gs c.1 e)
  where
    Out : ℕ → List Graph → Type 0
    Out o gs = (x : (beside gs).Spot) × (y : (beside gs).Spot) × (code o gs x ≡ e.0) × (code o gs y ≡ e.2) × (beside gs).Arc x e.1 y

    go : Memᴰ e (edges_from o 0 g) ⊎ Memᴰ e (edges (o + length g) gs) →
        (Memᴰ e (edges (o + length g) gs) → Out (o + length g) gs) → Out o (g ∷ gs)
    go (inl i) s = let (n, t, h, j, a, b) = edges_out o 0 g e i in
        (inl (n, h), inl (t, omega (arith, numbered_target 0 1 g c.0 n e.1 t j)), omega arith, b, j)
    go (inr i) s = let (x, y, a, b, u) = s i in (inr x, inr y, a, b, u)

pub atom_in : (o : ℕ) (gs : List Graph) (x : (beside gs).Spot) (a : ℕ) → (beside gs).Atom x a →
    Memᴰ {A = Arc} (code o gs x, a) (atom_list o gs)
atom_in o (g ∷ gs) (inl n) a u =
    Memᴰ.append_left (atom_list (o + length g) gs) (let e : 0 + n.0 ≡ n.0 = omega arith in rw e at (atoms_in o 0 g n.0 a n.1 u))
atom_in o (g ∷ gs) (inr x) a u = Memᴰ.append_right (atoms_from o 0 g) (atom_in (o + length g) gs x a u)
atom_in o [] x a u = elim x [ ]

pub atom_from : (o : ℕ) (gs : List Graph) (p : Arc) → Memᴰ p (atom_list o gs) →
    (x : (beside gs).Spot) × (code o gs x ≡ p.0) × (beside gs).Atom x p.1
atom_from o [] p m = absurd (Memᴰ.not-nil m)
atom_from o (g ∷ gs) p m = go (Memᴰ.append_cases (atoms_from o 0 g) m) (atom_from (o + length g) gs p)
  where
    Out : ℕ → List Graph → Type 0
    Out o gs = (x : (beside gs).Spot) × (code o gs x ≡ p.0) × (beside gs).Atom x p.1

    go : Memᴰ p (atoms_from o 0 g) ⊎ Memᴰ p (atom_list (o + length g) gs) →
        (Memᴰ p (atom_list (o + length g) gs) → Out (o + length g) gs) → Out o (g ∷ gs)
    go (inl i) s = let (n, h, b, a) = atoms_out o 0 g p i in (inl (n, h), omega arith, b)
    go (inr i) s = let (x, a, u) = s i in (inr x, a, u)

pub root_in : (o : ℕ) (gs : List Graph) (x : (beside gs).Spot) → (beside gs).Root x → Memᴰ {A = Arc} (0, code o gs x) (root_seeds o gs)
root_in o (g ∷ gs) (inl n) r = Memᴰ.head (let e : o + n.0 ≡ o = omega arith in λ i. (0, e i))
root_in o (g ∷ gs) (inr x) r = Memᴰ.tail (root_in (o + length g) gs x r)
root_in o [] x r = elim x [ ]

pub root_from : (o : ℕ) (gs : List Graph) → AllCanonical gs → (p : Arc) → Memᴰ p (root_seeds o gs) →
    (x : (beside gs).Spot) × (beside gs).Root x × (code o gs x ≡ p.1) × (0 ≡ p.0)
root_from o [] c p m = absurd (Memᴰ.not-nil m)
root_from o (g ∷ gs) c p m = go (Memᴰ.cases_cons m) (root_from (o + length g) gs c.1 p)
  where
    Out : ℕ → List Graph → Type 0
    Out o gs = (x : (beside gs).Spot) × (beside gs).Root x × (code o gs x ≡ p.1) × (0 ≡ p.0)

    go : (◌≡◌ {A = Arc} p (0, o)) ⊎ Memᴰ p (root_seeds (o + length g) gs) →
        (Memᴰ p (root_seeds (o + length g) gs) → Out (o + length g) gs) → Out o (g ∷ gs)
    go (inl e) s = (inl (0, canonical_some g c.0), refl, omega (arith, ap (λ (z : Arc). z.1) e), sym (ap (λ (z : Arc). z.0) e))
    go (inr i) s = let (x, r, a, b) = s i in (inr x, r, a, b)

pub reach : (gs : List Graph) → AllCanonical gs → (P : (beside gs).Spot → Type 0) → ((x : (beside gs).Spot) → (beside gs).Root x → P x) →
    ((x : (beside gs).Spot) (f : ℕ) (y : (beside gs).Spot) → P x → (beside gs).Arc x f y → P y) → (x : (beside gs).Spot) → P x
reach (g ∷ gs) c P r s (inl n) =
    numbered_reach (λ k. (h : k < length g) → P (inl (k, h))) 0 1 g c.0
    (λ k f t l q i h. s (inl (k, l)) f (inl (t, h)) (let e : 0 + k ≡ k = omega arith in let q' : (h : k < length g) →
    P (inl (k, h)) = subst (λ (z : ℕ). (h : z < length g) → P (inl (z, h))) e q in q' l) i)
    (λ j l h. r (inl (j, h)) (omega arith)) n.0 (omega (arith, n.1)) n.1
reach (g ∷ gs) c P r s (inr x) = reach gs c.1 (λ y. P (inr y)) (λ y. r (inr y)) (λ y f z. s (inr y) f (inr z)) x
reach [] c P r s x = elim x [ ]

module _ (g : Graph) (gs' : List Graph) (can : AllCanonical (g ∷ gs')) where
  abbrev gs : List Graph
  gs = g ∷ gs'

  abbrev N : Net
  N = beside gs

  seed_of : (p : Arc) → Memᴰ p (root_seeds 0 gs) →
      (x : N.Spot) × (y : N.Spot) × (code 0 gs x ≡ p.0) × (code 0 gs y ≡ p.1) × Same N (roots N) x y
  seed_of p m = let (y, r, a, b) = root_from 0 gs can p m in let h : 0 < length g = canonical_some g can.0 in
      (inl (0, h), y, omega arith, a, seed (refl, r))

  rule_holds : (q : Rule) → Memᴰ q (rules gs) → (x : N.Spot) × (y : N.Spot) × (u : N.Spot) × (v : N.Spot) ×
      (code 0 gs x ≡ q.0) × (code 0 gs y ≡ q.1) × (code 0 gs u ≡ q.2) × (code 0 gs v ≡ q.3)
      × (Same N (roots N) x y → Same N (roots N) u v)
  rule_holds q m = go (Memᴰ.append_cases (seed_rules (root_seeds 0 gs)) m)
    where
      Out : Type 0
      Out = (x : N.Spot) × (y : N.Spot) × (u : N.Spot) × (v : N.Spot) ×
          (code 0 gs x ≡ q.0) × (code 0 gs y ≡ q.1) × (code 0 gs u ≡ q.2) × (code 0 gs v ≡ q.3)
          × (Same N (roots N) x y → Same N (roots N) u v)

      go : Memᴰ q (seed_rules (root_seeds 0 gs)) ⊎ Memᴰ q (edge_rules (edges 0 gs) (edges 0 gs)) → Out
      go (inl i) =
          let (p, j, e) = seed_rule_from (root_seeds 0 gs) q i in
          let (x, y, a, b, s) = seed_of p j in (
            x,
            x,
            x,
            y,
            a ∙ sym (ap (λ (z : Rule). z.0) e),
            a ∙ sym (ap (λ (z : Rule). z.1) e),
            a ∙ sym (ap (λ (z : Rule). z.2) e),
            b
                ∙ sym (ap (λ (z : Rule). z.3) e),
            λ t. s,
          )
      go (inr i) =
          let (e, d, j, k, h, p) = edge_rule_from (edges 0 gs) (edges 0 gs) q i in
          let (x, x', a, a', u) = edge_from 0 gs can e j in
          let (y, y', b, b', v) = edge_from 0 gs can d k in (
            x,
            y,
            x',
            y',
            a ∙ sym (ap (λ (z : Rule). z.0) p),
            b ∙ sym (ap (λ (z : Rule). z.1) p),
            a' ∙ sym (ap (λ (z : Rule). z.2) p),
            b' ∙ sym (ap (λ (z : Rule). z.3) p),
            λ s. along s e.1 u (subst (λ (f : ℕ). N.Arc y f y') (sym h) v),
          )

  coded : Coded N (roots N) (rules gs) (edges 0 gs) (atom_list 0 gs)
  coded = record {
    ruled = record {
      code = code 0 gs;
      code_one = λ x y e. subst (λ (z : N.Spot). Same N (roots N) x z) (code_one 0 gs x y e) (self x);
      rule_holds = rule_holds;
      seed_rule = λ lab k x y s. sym (root_lab lab k x s.0) ∙ root_lab lab k y s.1;
      arc_rule = λ x f x' y y' u v. Memᴰ.append_right (seed_rules (root_seeds 0 gs))
          (edge_rule_in (edges 0 gs) (edges 0 gs) (code 0 gs x, f, code 0 gs x') (code 0 gs y, f, code 0 gs y') (edge_of 0 gs x f x' u)
          (edge_of 0 gs y f y' v) refl);
    };
    edge_of = edge_of 0 gs;
    edge_from = edge_from 0 gs can;
    atom_in = atom_in 0 gs;
    atom_from = atom_from 0 gs;
    start = (inl (0, canonical_some g can.0), refl, omega arith);
    roots_same = λ x y r q. seed (r, q);
    reach = reach gs can;
  }
    where
      root_lab : (lab : ℕ → ℕ) → ((q : Rule) → Memᴰ q (rules gs) → Kept lab q) → (x : N.Spot) → N.Root x → lab 0 ≡ lab (code 0 gs x)
      root_lab lab k x r = k (0, 0, 0, code 0 gs x)
          (Memᴰ.append_left (edge_rules (edges 0 gs) (edges 0 gs)) (seed_rule_in (root_seeds 0 gs) (0, code 0 gs x) (root_in 0 gs x r)))
          refl

  -- what `join` answers
  pub data Answer : Option Graph → Type 0 where
    is_joined : (G : Graph) → Joined gs G → Answer (some G)
    is_clash : Clash gs → Answer none

  pub join_answers : Answer (join gs)
  unfolding join
  join_answers = go (clashes lab at at es) (clash_view lab at es at)
    where
      lab : ℕ → ℕ
      lab = labels (rules gs)

      at : List Arc
      at = atom_list 0 gs

      es : List Edge
      es = edges 0 gs

      good : Good N (roots N) (rules gs) coded.ruled lab × Closed N (roots N) (rules gs) coded.ruled lab
      good = labels_good N (roots N) (rules gs) coded.ruled

      go : (t : Bool) → ClashView lab at es at t →
          Answer (elim t [ true ↦ none | false ↦ some (graph_for lab at es (order lab es) (order lab es)) ])
      go true v = is_clash (clash_found N (roots N) (rules gs) es at coded lab good.0 good.1 v)
      go false (no_clash a b) = is_joined (graph_for lab at es (order lab es) (order lab es))
          (joined_ok N (roots N) (rules gs) es at coded lab good.0 good.1 a b)

  pub join_some : (G : Graph) → join gs ≡ some G → Joined gs G
  join_some G = go (join gs) join_answers
    where
      go : (o : Option Graph) → Answer o → o ≡ some G → Joined gs G
      go (some H) (is_joined K j) e = let d : H ≡ G = cc in subst (Joined gs) d j
      go none (is_clash k) e = let z : ◌≡◌ {A = ℕ} 0 1 = cc in absurd (omega arith)

  pub join_none : join gs ≡ none → Clash gs
  join_none = go (join gs) join_answers
    where
      go : (o : Option Graph) → Answer o → ◌≡◌ {A = Option Graph} o none → Clash gs
      go (some H) (is_joined K j) e = let z : ◌≡◌ {A = ℕ} 0 1 = cc in absurd (omega arith)
      go none (is_clash k) e = k

  pub some_join : (G : Graph) → Joined gs G → join gs ≡ some G
  some_join G j = go (join gs) join_answers
    where
      go : (o : Option Graph) → Answer o → o ≡ some G
      go (some H) (is_joined K i) = ap {B = Option Graph} some (joined_unique gs H G i j)
      go none (is_clash k) = absurd (joined_agrees N (roots N) G j k)

  pub none_join : Clash gs → join gs ≡ none
  none_join k = go (join gs) join_answers
    where
      go : (o : Option Graph) → Answer o → ◌≡◌ {A = Option Graph} o none
      go (some H) (is_joined K i) = absurd (joined_agrees N (roots N) H i k)
      go none (is_clash k') = refl

  -- the program that joins and the classes of document 01 are one
  pub join_iff : (G : Graph) → (join gs ≡ some G) ↔ Joined gs G
  join_iff G = (join_some G, some_join G)

  pub clash_iff : (join gs ≡ none) ↔ Clash gs
  clash_iff = (join_none, none_join)
