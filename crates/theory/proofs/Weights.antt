-- Layout one under rule 0: a join keeps codes small and is no heavier than what it joins; so results are well formed and short.
-- Assumes nothing.
use mathlib.Core.Path.{◌≡◌, refl, ap, sym, subst}
use mathlib.Core.Logic.{◌⊎◌, inl, inr, ⊎_elim}
use mathlib.Core.List.Memᴰ
use mathlib.Core.List.{List, [], ◌∷◌, Memᴰ}
use Prim.Native.Nat.{ℕ, zero, suc, ◌≤◌, ◌<◌}
use native.Mathlib.Omega.{arith}
use lib.ListN.{length, length-append}
use Rattle.theory.specs.Limits.{code_limit}
use Rattle.theory.specs.Net.{Node, atom, arcs, Graph, nodeAt, arcsOf, Joined}
use Rattle.theory.specs.Descr.{Desc, desc, Disjs, end, ◌and◌, Alts, fail, ◌or◌, disjs}
use Rattle.theory.specs.Layout.{arc_words, node_words, nodes_words, words, disjs_words, alts_words, ArcsFit, GraphFits, WellFormed}
use Rattle.theory.specs.Layout.{WellAll, WellAny}
use Rattle.theory.proofs.Sets.{graph_of, number, graph_in, spot_atom, spot_arc}
use Rattle.theory.proofs.Weight.{joined_weight}
use Rattle.descriptions.specs.Canonical.{All}
use Rattle.descriptions.proofs.Weights.{Weights, total}
use Rattle.theory.proofs.Laws.{laws, joined_of}
use Rattle.theory.specs.Weight.{weight, weights}

-- features and atoms are at most 65,535
abbrev pub SoftNode : Node → Type 0
SoftNode (atom a) = a < code_limit
SoftNode (arcs l) = ArcsFit l

abbrev pub SoftGraph : Graph → Type 0
SoftGraph [] = Unit {0}
SoftGraph (v ∷ vs) = SoftNode v × SoftGraph vs

abbrev pub SoftGraphs : List Graph → Type 0
SoftGraphs = All SoftGraph

arc_below : (l : List (ℕ × ℕ)) → ArcsFit l → (f t : ℕ) → Memᴰ (f, t) l → f < code_limit
arc_below [] p f t i = absurd (Memᴰ.not-nil i)
arc_below (q ∷ l) p f t i = go (Memᴰ.cases_cons i) (arc_below l p.1 f t)
  where
    go : (◌≡◌ {A = ℕ × ℕ} (f, t) q) ⊎ Memᴰ (f, t) l → (Memᴰ (f, t) l → f < code_limit) → f < code_limit
    go (inl e) s = let h : f ≡ q.0 = ap (λ (z : ℕ × ℕ). z.0) e in let k = p.0 in omega (arith, h, k)
    go (inr j) s = s j

below_arc : (l : List (ℕ × ℕ)) → ((f t : ℕ) → Memᴰ (f, t) l → f < code_limit) → ArcsFit l
below_arc [] h = tt
below_arc (q ∷ l) h = (h q.0 q.1 (Memᴰ.head refl), below_arc l (λ f t i. h f t (Memᴰ.tail i)))

pub soft_arc : (g : Graph) → SoftGraph g → (n f t : ℕ) → Memᴰ (f, t) (arcsOf (nodeAt g n)) → f < code_limit
soft_arc [] p n f t i = absurd (Memᴰ.not-nil i)
soft_arc (atom a ∷ vs) p zero f t i = absurd (Memᴰ.not-nil i)
soft_arc (arcs l ∷ vs) p zero f t i = arc_below l p.0 f t i
soft_arc (v ∷ vs) p (suc n) f t i = soft_arc vs p.1 n f t i

pub soft_atom : (g : Graph) → SoftGraph g → (n a : ℕ) → nodeAt g n ≡ atom a → a < code_limit
soft_atom [] p n a e = let z : ◌≡◌ {A = ℕ} 0 1 = cc in absurd (omega arith)
soft_atom (atom b ∷ vs) p zero a e = let h : b ≡ a = cc in let k = p.0 in omega (arith, k)
soft_atom (arcs l ∷ vs) p zero a e = let z : ◌≡◌ {A = ℕ} 0 1 = cc in absurd (omega arith)
soft_atom (v ∷ vs) p (suc n) a e = soft_atom vs p.1 n a e

soft_node : (v : Node) → ((f t : ℕ) → Memᴰ (f, t) (arcsOf v) → f < code_limit) → ((a : ℕ) → v ≡ atom a → a < code_limit) → SoftNode v
soft_node (atom a) h k = k a refl
soft_node (arcs l) h k = below_arc l h

pub soft_graph : (g : Graph) → ((n f t : ℕ) → Memᴰ (f, t) (arcsOf (nodeAt g n)) → f < code_limit) →
    ((n a : ℕ) → nodeAt g n ≡ atom a → a < code_limit) → SoftGraph g
soft_graph [] h k = tt
soft_graph (v ∷ vs) h k = (soft_node v (h 0) (k 0), soft_graph vs (λ n. h (suc n)) (λ n. k (suc n)))

pub soft_in : (gs : List Graph) → SoftGraphs gs → (g : Graph) → Memᴰ g gs → SoftGraph g
soft_in [] p g i = absurd (Memᴰ.not-nil i)
soft_in (h ∷ gs) p g i = ⊎_elim (λ e. subst SoftGraph (sym e) p.0) (soft_in gs p.1 g) (Memᴰ.cases_cons i)

pub joined_soft : (gs : List Graph) → SoftGraphs gs → (G : Graph) → Joined gs G → SoftGraph G
joined_soft gs p G j = soft_graph G
    (λ n f t i. let (x, y, d, e, u) = j.arc_from n f t i in
    soft_arc (graph_of gs x) (soft_in gs p (graph_of gs x) (graph_in gs x)) (number gs x) f (number gs y) (spot_arc gs x f y u).1)
    (λ n a e. let (x, d, u) = j.atom_from n a e in
    soft_atom (graph_of gs x) (soft_in gs p (graph_of gs x) (graph_in gs x)) (number gs x) a (spot_atom gs x a u))

pub weights_total : (gs : List Graph) → weights gs ≡ total weight gs
weights_total [] = refl
weights_total (g ∷ gs) = rw (weights_total gs) refl

abbrev pub weights_one : Weights laws
weights_one = record {
  SoftGraph = SoftGraph;
  weight = weight;
  soft_join = λ gs p f s K e. joined_soft gs s K (joined_of gs (p, f) K e);
  weight_join = λ gs p f K e. rw (← weights_total gs) (joined_weight gs f K (joined_of gs (p, f) K e));
}

abbrev pub Soft : ℕ → Desc → ℕ → Type 0
Soft = Rattle.descriptions.proofs.Soft.Soft weights_one

abbrev pub SoftAll : ℕ → Disjs → ℕ → Type 0
SoftAll = Rattle.descriptions.proofs.Soft.SoftAll weights_one

abbrev pub SoftAny : ℕ → Alts → ℕ → Type 0
SoftAny = Rattle.descriptions.proofs.Soft.SoftAny weights_one

abbrev len : Desc → ℕ
len = Rattle.descriptions.proofs.Soft.len weights_one

abbrev len_all : Disjs → ℕ
len_all = Rattle.descriptions.proofs.Soft.len_all weights_one

abbrev len_any : Alts → ℕ
len_any = Rattle.descriptions.proofs.Soft.len_any weights_one

fits_soft : (g : Graph) → GraphFits g → SoftGraph g
fits_soft [] p = tt
fits_soft (atom a ∷ vs) p = (p.0, fits_soft vs p.1)
fits_soft (arcs l ∷ vs) p = (p.0.1, fits_soft vs p.1)

mutual
  pub well_soft : (d : Desc) (n : ℕ) → WellFormed d n → Soft 2 d n
  well_soft (desc g ds) n p = (p.0, fits_soft g p.1, well_soft_all ds n p.2)

  well_soft_all : (ds : Disjs) (n : ℕ) → WellAll ds n → SoftAll 2 ds n
  well_soft_all end n p = tt
  well_soft_all (a and ds) zero p = absurd p
  well_soft_all (a and ds) (suc n) p = (p.0, well_soft_any a n p.1, well_soft_all ds (suc n) p.2)

  well_soft_any : (a : Alts) (n : ℕ) → WellAny a n → SoftAny 2 a n
  well_soft_any fail n p = tt
  well_soft_any (d or a) n p = (well_soft d n p.0, well_soft_any a n p.1)

mutual
  unfolding Rattle.descriptions.proofs.Soft.len weight

  pub len_is : (d : Desc) → length (words d) ≡ len d
  len_is (desc g ds) = let e = length-append (nodes_words g) (disjs ds ∷ disjs_words ds) in let f = len_all_is ds in omega (arith, e, f)

  len_all_is : (ds : Disjs) → length (disjs_words ds) ≡ len_all ds
  len_all_is end = refl
  len_all_is (a and ds) = let e = length-append (alts_words a) (disjs_words ds) in let f = len_any_is a in let g = len_all_is ds in
      omega (arith, e, f, g)

  len_any_is : (a : Alts) → length (alts_words a) ≡ len_any a
  len_any_is fail = refl
  len_any_is (d or a) = let e = length-append (words d) (alts_words a) in let f = len_is d in let g = len_any_is a in omega (arith, e, f, g)

-- with few words, the arcs of a node are few
arcs_short : (l : List (ℕ × ℕ)) → length l ≤ length (arc_words l)
arcs_short [] = omega arith
arcs_short (p ∷ l) = omega (arith, arcs_short l)

graph_hard : (g : Graph) → SoftGraph g → weight g < code_limit → GraphFits g
unfolding weight
graph_hard [] p h = tt
graph_hard (atom a ∷ vs) p h = let e = length-append (node_words (atom a)) (nodes_words vs) in
    (p.0, graph_hard vs p.1 (omega (arith, e)))
graph_hard (arcs l ∷ vs) p h = let e = length-append (node_words (arcs l)) (nodes_words vs) in let f = arcs_short l in
    ((omega (arith, e, f), p.0), graph_hard vs p.1 (omega (arith, e)))

mutual
  unfolding Rattle.descriptions.proofs.Soft.len

  pub soft_well : (d : Desc) (n : ℕ) → Soft 2 d n → len d < code_limit → WellFormed d n
  soft_well (desc g ds) n p h = (p.0, graph_hard g p.1 (omega arith), soft_well_all ds n p.2 (omega arith))

  soft_well_all : (ds : Disjs) (n : ℕ) → SoftAll 2 ds n → len_all ds < code_limit → WellAll ds n
  soft_well_all end n p h = tt
  soft_well_all (a and ds) zero p h = absurd p
  soft_well_all (a and ds) (suc n) p h = (p.0, soft_well_any a n p.1 (omega arith), soft_well_all ds (suc n) p.2 (omega arith))

  soft_well_any : (a : Alts) (n : ℕ) → SoftAny 2 a n → len_any a < code_limit → WellAny a n
  soft_well_any fail n p h = tt
  soft_well_any (d or a) n p h = (soft_well d n p.0 (omega arith), soft_well_any a n p.1 (omega arith))
