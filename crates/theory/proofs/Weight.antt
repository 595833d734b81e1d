-- A joined graph has no more nodes and no more arcs than the graphs that it joins: the words of a join.
-- Assumes nothing.
use mathlib.Core.Path.{◌≡◌, refl, ap, sym, ◌∙◌, subst}
use mathlib.Core.Logic.{◌⊎◌, inl, inr, ⊎_elim}
use mathlib.Core.Bool.{Bool, true, false}
use mathlib.Core.List.{List, [], ◌∷◌, ◌++◌, map, Memᴰ}
use Prim.Native.Nat.{ℕ, zero, suc, ◌+◌, ◌-◌, ◌≤◌, ◌<◌}
use native.Mathlib.Bridge.{le_prop}
use native.Mathlib.Omega.{arith}
use lib.ListN.{length, length-append, length-map}
use lib.Dec.{ltb}
use Rattle.theory.specs.Net.{Node, atom, arcs, Graph, nodeAt, arcsOf, NodeOf, beside, Rising, met, Numbered, Joined}
use Rattle.theory.specs.Layout.{arc_words, node_words, nodes_words}
use Rattle.descriptions.proofs.Tests.{Tells, holds, fails, tells_lt, Distinct, distinct_append, map_in}
use Rattle.theory.proofs.Instance.{AllCanonical}
use Rattle.theory.proofs.Meaning.{canonical_some}
use Rattle.theory.proofs.Unique.{rising_above}
use Rattle.theory.specs.Weight.{weight, weights}

-- what is left when x is taken out
taken : {A : Type 0} (x : A) (m : List A) → Memᴰ x m →
    (r : List A) × (length m ≡ suc (length r)) × ((y : A) → Memᴰ y m → (y ≡ x) ⊎ Memᴰ y r)
taken x [] i = absurd (mathlib.Core.List.Memᴰ.not-nil i)
taken {A} x (z ∷ m) i = go (mathlib.Core.List.Memᴰ.cases_cons i) (taken x m)
  where
    Out : List A → Type 0
    Out m = (r : List A) × (length m ≡ suc (length r)) × ((y : A) → Memᴰ y m → (y ≡ x) ⊎ Memᴰ y r)

    go : (x ≡ z) ⊎ Memᴰ x m → (Memᴰ x m → Out m) → Out (z ∷ m)
    go (inl e) s = (m, refl, λ y j. ⊎_elim (λ d. inl (d ∙ sym e)) (λ k. inr k) (mathlib.Core.List.Memᴰ.cases_cons j))
    go (inr k) s = let (r, l, f) = s k in (
      z ∷ r,
      ap suc l,
      λ y j. ⊎_elim (λ d. inr (mathlib.Core.List.Memᴰ.head d)) (λ k. ⊎_elim (λ d. inl d) (λ n. inr (mathlib.Core.List.Memᴰ.tail n)) (f y k))
          (mathlib.Core.List.Memᴰ.cases_cons j),
    )

pub distinct_length : {A : Type 0} (l m : List A) → Distinct l → ((x : A) → Memᴰ x l → Memᴰ x m) → length l ≤ length m
distinct_length [] m d f = omega arith
distinct_length {A} (x ∷ l) m d f =
    let t = taken x m (f x (mathlib.Core.List.Memᴰ.head refl)) in
    let ih = distinct_length l t.0 d.1
    (λ y i. ⊎_elim (λ e. absurd (d.0 (subst (λ (z : A). Memᴰ z l) e i))) (λ k. k) (t.2 y (f y (mathlib.Core.List.Memᴰ.tail i)))) in
    omega (arith, ih, t.1)

-- the numbers from a on, n of them
abbrev pub range : ℕ → ℕ → List ℕ
range a zero = []
range a (suc n) = a ∷ range (suc a) n

pub range_length : (a n : ℕ) → length (range a n) ≡ n
range_length a zero = refl
range_length a (suc n) = ap suc (range_length (suc a) n)

pub range_in : (a n k : ℕ) → a ≤ k → k < a + n → Memᴰ k (range a n)
range_in a zero k h l = absurd (omega arith)
range_in a (suc n) k h l = go (ltb a k) (tells_lt a k) (range_in (suc a) n k)
  where
    go : (t : Bool) → Tells (a < k) t → (suc a ≤ k → k < suc a + n → Memᴰ k (range (suc a) n)) → Memᴰ k (a ∷ range (suc a) n)
    go true (holds p) s = mathlib.Core.List.Memᴰ.tail (s (omega arith) (omega arith))
    go false (fails p) s = let e : k ≡ a = omega arith in mathlib.Core.List.Memᴰ.head e

pub range_above : (a n k : ℕ) → Memᴰ k (range a n) → (a ≤ k) × (k < a + n)
range_above a zero k i = absurd (mathlib.Core.List.Memᴰ.not-nil i)
range_above a (suc n) k i = go (mathlib.Core.List.Memᴰ.cases_cons i) (range_above (suc a) n k)
  where
    go : (k ≡ a) ⊎ Memᴰ k (range (suc a) n) → (Memᴰ k (range (suc a) n) → (suc a ≤ k) × (k < suc a + n)) →
        (a ≤ k) × (k < a + suc n)
    go (inl e) s = (omega arith, omega arith)
    go (inr j) s = let p = (s j).0 in let q = (s j).1 in (omega arith, omega arith)

pub range_distinct : (a n : ℕ) → Distinct (range a n)
range_distinct a zero = tt
range_distinct a (suc n) = (λ i. let p = (range_above (suc a) n a i).0 in omega arith, range_distinct (suc a) n)

-- arcs as triples: node, feature, target
abbrev pub Triple : Type 0
Triple = ℕ × ℕ × ℕ

abbrev pub triples : ℕ → List (ℕ × ℕ) → List Triple
triples k [] = []
triples k (p ∷ l) = (k, p.0, p.1) ∷ triples k l

abbrev pub arcs_of : ℕ → Graph → List Triple
arcs_of k [] = []
arcs_of k (v ∷ vs) = triples k (arcsOf v) ++ arcs_of (suc k) vs

triples_in : (k : ℕ) (l : List (ℕ × ℕ)) (f t : ℕ) → Memᴰ (f, t) l → Memᴰ (k, f, t) (triples k l)
triples_in k [] f t i = absurd (mathlib.Core.List.Memᴰ.not-nil i)
triples_in k (p ∷ l) f t i = ⊎_elim (λ (e : ◌≡◌ {A = ℕ × ℕ} (f, t) p). mathlib.Core.List.Memᴰ.head (ap {B = Triple} (λ (q : ℕ × ℕ). (k, q.0, q.1)) e))
    (λ j. mathlib.Core.List.Memᴰ.tail (triples_in k l f t j)) (mathlib.Core.List.Memᴰ.cases_cons i)

triples_from : (k : ℕ) (l : List (ℕ × ℕ)) (x : Triple) → Memᴰ x (triples k l) → (x.0 ≡ k) × Memᴰ (x.1, x.2) l
triples_from k [] x i = absurd (mathlib.Core.List.Memᴰ.not-nil i)
triples_from k (p ∷ l) x i = go (mathlib.Core.List.Memᴰ.cases_cons i) (triples_from k l x)
  where
    go : (◌≡◌ {A = Triple} x (k, p.0, p.1)) ⊎ Memᴰ x (triples k l) →
        (Memᴰ x (triples k l) → (x.0 ≡ k) × Memᴰ (x.1, x.2) l) → (x.0 ≡ k) × Memᴰ (x.1, x.2) (p ∷ l)
    go (inl e) s = (ap (λ (z : Triple). z.0) e, mathlib.Core.List.Memᴰ.head (ap {B = ℕ × ℕ} (λ (z : Triple). (z.1, z.2)) e))
    go (inr j) s = let r = s j in (r.0, mathlib.Core.List.Memᴰ.tail r.1)

arcs_in : (k : ℕ) (g : Graph) (n f t : ℕ) → Memᴰ (f, t) (arcsOf (nodeAt g n)) → Memᴰ (k + n, f, t) (arcs_of k g)
arcs_in k [] n f t i = absurd (mathlib.Core.List.Memᴰ.not-nil i)
arcs_in k (v ∷ vs) zero f t i = let e : k ≡ k + 0 = omega arith in
    subst (λ (z : ℕ). Memᴰ (z, f, t) (arcs_of k (v ∷ vs))) e (mathlib.Core.List.Memᴰ.append_left (arcs_of (suc k) vs) (triples_in k (arcsOf v) f t i))
arcs_in k (v ∷ vs) (suc n) f t i = let e : suc k + n ≡ k + suc n = omega arith in
    subst (λ (z : ℕ). Memᴰ (z, f, t) (arcs_of k (v ∷ vs))) e (mathlib.Core.List.Memᴰ.append_right (triples k (arcsOf v)) (arcs_in (suc k) vs n f t i))

arcs_from : (k : ℕ) (g : Graph) (x : Triple) → Memᴰ x (arcs_of k g) →
    (n : ℕ) × (x.0 ≡ k + n) × Memᴰ (x.1, x.2) (arcsOf (nodeAt g n))
arcs_from k [] x i = absurd (mathlib.Core.List.Memᴰ.not-nil i)
arcs_from k (v ∷ vs) x i = ⊎_elim
    (λ j. let r = triples_from k (arcsOf v) x j in let e = r.0 in (0, omega arith, r.1))
    (λ j. let r = arcs_from (suc k) vs x j in let e = r.1 in (suc r.0, omega arith, r.2))
    (mathlib.Core.List.Memᴰ.append_cases (triples k (arcsOf v)) i)

triples_distinct : (k b : ℕ) (l : List (ℕ × ℕ)) → Rising b l → Distinct (triples k l)
triples_distinct k b [] r = tt
triples_distinct k b (p ∷ l) r = (
  λ i. let m = (triples_from k l (k, p.0, p.1) i).1 in let h = rising_above (suc p.0) l r.1 p.0 p.1 m in
      omega arith,
  triples_distinct k (suc p.0) l r.1,
)

arcs_distinct : (k j m : ℕ) (g : Graph) → Numbered j m g → Distinct (arcs_of k g)
arcs_distinct k j m [] c = tt
arcs_distinct k j m (v ∷ vs) c =
    distinct_append (triples k (arcsOf v)) (arcs_of (suc k) vs) (triples_distinct k 0 (arcsOf v) c.1)
    (arcs_distinct (suc k) (suc j) (met m (arcsOf v)) vs c.3)
    (λ x a b. let e = (triples_from k (arcsOf v) x a).0 in let f = (arcs_from (suc k) vs x b).1 in let n = (arcs_from (suc k) vs x b).0 in
    omega (arith, e, f))

pub arc_length : (l : List (ℕ × ℕ)) → length (arc_words l) ≡ length l + length l
arc_length [] = refl
arc_length (p ∷ l) = omega (arith, arc_length l)

triples_length : (k : ℕ) (l : List (ℕ × ℕ)) → length (triples k l) ≡ length l
triples_length k [] = refl
triples_length k (p ∷ l) = ap suc (triples_length k l)

node_length : (k : ℕ) (v : Node) → length (node_words v) ≡ suc (length (triples k (arcsOf v)) + length (triples k (arcsOf v)))
node_length k (atom a) = refl
node_length k (arcs l) = let e = arc_length l in let f = triples_length k l in omega (arith, e, f)

pub weight_is : (k : ℕ) (g : Graph) → weight g ≡ length g + (length (arcs_of k g) + length (arcs_of k g))
unfolding weight
weight_is k [] = refl
weight_is k (v ∷ vs) =
    let e = length-append (node_words v) (nodes_words vs) in
    let f = length-append (triples k (arcsOf v)) (arcs_of (suc k) vs) in
    let h = node_length k v in
    let i = weight_is (suc k) vs in
    omega (arith, e, f, h, i)

-- a numbering of the nodes of one graph, for every number
abbrev total_at : (g : Graph) → (NodeOf g → ℕ) → (n : ℕ) (t : Bool) → Tells (n < length g) t → ℕ
total_at g c n true (holds h) = c (n, h)
total_at g c n false (fails p) = 0

abbrev total : (g : Graph) → (NodeOf g → ℕ) → ℕ → ℕ
total g c n = total_at g c n (ltb n (length g)) (tells_lt n (length g))

total_is : (g : Graph) (c : NodeOf g → ℕ) (n : ℕ) (h : n < length g) → total g c n ≡ c (n, h)
total_is g c n h = go (ltb n (length g)) (tells_lt n (length g))
  where
    go : (t : Bool) (w : Tells (n < length g) t) → total_at g c n t w ≡ c (n, h)
    go true (holds k) = ap (λ (z : n < length g). c (n, z)) (le_prop k h)
    go false (fails p) = absurd (p h)

-- all nodes that are no roots, and all arcs, under a numbering of the nodes
abbrev nodes_under : (gs : List Graph) → ((beside gs).Spot → ℕ) → List ℕ
nodes_under [] c = []
nodes_under (g ∷ gs) c = map (total g (λ x. c (inl x))) (range 1 (length g - 1)) ++ nodes_under gs (λ x. c (inr x))

under : (ℕ → ℕ) → Triple → Triple
under c x = (c x.0, x.1, c x.2)

abbrev arcs_under : (gs : List Graph) → ((beside gs).Spot → ℕ) → List Triple
arcs_under [] c = []
arcs_under (g ∷ gs) c = map (under (total g (λ x. c (inl x)))) (arcs_of 0 g) ++ arcs_under gs (λ x. c (inr x))

nodes_found : (gs : List Graph) (c : (beside gs).Spot → ℕ) (x : (beside gs).Spot) → (beside gs).Root x ⊎ Memᴰ (c x) (nodes_under gs c)
nodes_found (g ∷ gs) c (inl n) = go (ltb 0 n.0) (tells_lt 0 n.0)
  where
    go : (t : Bool) → Tells (0 < n.0) t → (n.0 ≡ 0) ⊎ Memᴰ (c (inl n)) (nodes_under (g ∷ gs) c)
    go true (holds h) =
        let l = n.1 in
        let i : Memᴰ n.0 (range 1 (length g - 1)) = range_in 1 (length g - 1) n.0 (omega arith) (omega (arith, l)) in
        inr (mathlib.Core.List.Memᴰ.append_left (nodes_under gs (λ x. c (inr x)))
        (subst (λ (z : ℕ). Memᴰ z (map (total g (λ x. c (inl x))) (range 1 (length g - 1))))
        (total_is g (λ x. c (inl x)) n.0 n.1) (map_in (total g (λ x. c (inl x))) (range 1 (length g - 1)) n.0 i)))
    go false (fails p) = inl (omega arith)
nodes_found (g ∷ gs) c (inr x) =
    ⊎_elim (λ r. inl r) (λ i. inr (mathlib.Core.List.Memᴰ.append_right (map (total g (λ y. c (inl y))) (range 1 (length g - 1))) i))
    (nodes_found gs (λ y. c (inr y)) x)
nodes_found [] c x = elim x [ ]

arcs_found : (gs : List Graph) (c : (beside gs).Spot → ℕ) (x : (beside gs).Spot) (f : ℕ) (y : (beside gs).Spot) → (beside gs).Arc x f y →
    Memᴰ (c x, f, c y) (arcs_under gs c)
unfolding under
arcs_found (g ∷ gs) c (inl n) f (inl m) u =
    let tc = total g (λ x. c (inl x)) in
    let z : 0 + n.0 ≡ n.0 = omega arith in
    let i : Memᴰ (n.0, f, m.0) (arcs_of 0 g) =
    subst (λ (k : ℕ). Memᴰ (k, f, m.0) (arcs_of 0 g)) z (arcs_in 0 g n.0 f m.0 u) in
    let e : ◌≡◌ {A = Triple} (tc n.0, f, tc m.0) (c (inl n), f, c (inl m)) =
    λ k. (total_is g (λ x. c (inl x)) n.0 n.1 k, f, total_is g (λ x. c (inl x)) m.0 m.1 k) in
    mathlib.Core.List.Memᴰ.append_left (arcs_under gs (λ x. c (inr x)))
    (subst (λ (z : Triple). Memᴰ z (map (under tc) (arcs_of 0 g))) e (map_in (under tc) (arcs_of 0 g) (n.0, f, m.0) i))
arcs_found (g ∷ gs) c (inl n) f (inr y) u = absurd u
arcs_found (g ∷ gs) c (inr x) f (inl m) u = absurd u
arcs_found (g ∷ gs) c (inr x) f (inr y) u =
    mathlib.Core.List.Memᴰ.append_right (map (under (total g (λ z. c (inl z)))) (arcs_of 0 g)) (arcs_found gs (λ z. c (inr z)) x f y u)
arcs_found [] c x f y u = elim x [ ]

pub weights_append : (a b : List Graph) → weights (a ++ b) ≡ weights a + weights b
weights_append [] b = omega arith
weights_append (g ∷ a) b = omega (arith, weights_append a b)

under_length : (gs : List Graph) → AllCanonical gs → (c : (beside gs).Spot → ℕ) →
    length (nodes_under gs c) + length gs + (length (arcs_under gs c) + length (arcs_under gs c)) ≡ weights gs
under_length [] h c = refl
under_length (g ∷ gs) h c =
    let tc = total g (λ x. c (inl x)) in
    let e₁ = length-append (map tc (range 1 (length g - 1))) (nodes_under gs (λ x. c (inr x))) in
    let e₂ = length-map (range 1 (length g - 1)) tc in
    let e₃ = range_length 1 (length g - 1) in
    let e₄ = length-append (map (under tc) (arcs_of 0 g)) (arcs_under gs (λ x. c (inr x))) in
    let e₅ = length-map (arcs_of 0 g) (under tc) in
    let e₆ = weight_is 0 g in
    let e₇ = canonical_some g h.0 in
    let e₈ = under_length gs h.1 (λ x. c (inr x)) in
    omega (arith, e₁, e₂, e₃, e₄, e₅, e₆, e₇, e₈)

-- the join is no heavier: one word less for each graph but one
pub joined_weight : (gs : List Graph) → AllCanonical gs → (G : Graph) → Joined gs G → weight G + length gs ≤ suc (weights gs)
joined_weight gs h G j =
    let c : (beside gs).Spot → ℕ = λ x. j.class x in
    let n : length (range 0 (length G)) ≤ length (0 ∷ nodes_under gs c) =
    distinct_length (range 0 (length G)) (0 ∷ nodes_under gs c) (range_distinct 0 (length G))
    (λ k i. let (x, e) = j.onto k (omega (arith, (range_above 0 (length G) k i).1)) in
    ⊎_elim (λ r. mathlib.Core.List.Memᴰ.head (sym e ∙ j.root x r)) (λ m. mathlib.Core.List.Memᴰ.tail (subst (λ (z : ℕ). Memᴰ z (nodes_under gs c)) e m))
    (nodes_found gs c x)) in
    let a : length (arcs_of 0 G) ≤ length (arcs_under gs c) =
    distinct_length (arcs_of 0 G) (arcs_under gs c) (arcs_distinct 0 0 1 G j.canonical)
    (λ t i. let (k, d, m) = arcs_from 0 G t i in
    let (x, y, p, q, u) = j.arc_from k t.1 t.2 m in
    let d' : k ≡ t.0 = omega (arith, d) in
    let p' : c x ≡ t.0 = p ∙ d' in
    let w : ◌≡◌ {A = Triple} (c x, t.1, c y) t = λ z. (p' z, t.1, q z) in
    subst (λ (z : Triple). Memᴰ z (arcs_under gs c)) w (arcs_found gs c x t.1 y u)) in
    omega (arith, n, a, range_length 0 (length G), under_length gs h c, weight_is 0 G)
