-- A graph has one image: isomorphic canonical graphs are equal, and so are their words. That they are canonical is needed.
-- Assumes nothing.
use mathlib.Core.Path.{◌≡◌, refl, ap, sym, ◌∙◌}
use mathlib.Core.Logic.{◌≢◌}
use mathlib.Core.HLevel.{Σ_prop_path}
use mathlib.Core.List.Memᴰ
use mathlib.Core.List.{[], ◌∷◌, map}
use Prim.Native.Nat.{ℕ, zero, suc, ◌<◌}
use native.Mathlib.Bridge.{le_prop}
use native.Mathlib.Omega.{arith}
use lib.ListN.{length}
use Rattle.theory.specs.Net.{Node, atom, arcs, Graph, nodeAt, arcsOf, NodeOf, Canonical}
use Rattle.theory.specs.Isomorphic.{Isomorphic}
use Rattle.theory.specs.Layout.{nodes_words}
use Rattle.theory.proofs.Meaning.{canonical_some}
use Rattle.theory.proofs.Instance.{numbered_target}
use Rattle.theory.proofs.Unique.{In, canonical_same}
use Rattle.descriptions.proofs.Tests.{map_in}

-- a graph is isomorphic to itself
pub isomorphic_self : (g : Graph) → Isomorphic g g
isomorphic_self g = record {
  to = λ x. x;
  from = λ y. y;
  from_to = λ x. refl;
  to_from = λ y. refl;
  root_kept = λ x. (λ r. r, λ r. r);
  atom_kept = λ x a. (λ u. u, λ u. u);
  arc_kept = λ x f y. (λ u. u, λ u. u);
}

same_number : (g : Graph) (x y : NodeOf g) → x.0 ≡ y.0 → x ≡ y
same_number g x y e = Σ_prop_path (λ n. le_prop) e

module _ (g h : Graph) (i : Isomorphic g h) where
  -- one node has the number m in g and n in h
  abbrev Pair : ℕ → ℕ → Type 0
  Pair m n = (x : NodeOf g) × (x.0 ≡ m) × ((i.to x).0 ≡ n)

  -- a number here has one there, and the other way round
  one_there : (k m n : ℕ) → Pair k m → Pair k n → m ≡ n
  one_there k m n (x, d, e) (y, d', e') = sym e ∙ ap (λ (z : NodeOf g). (i.to z).0) (same_number g x y (d ∙ sym d')) ∙ e'

  one_here : (k l m : ℕ) → Pair k m → Pair l m → k ≡ l
  one_here k l m (x, d, e) (y, d', e') =
      let there : i.to x ≡ i.to y = same_number h (i.to x) (i.to y) (e ∙ sym e') in
      let here : x ≡ y = sym (i.from_to x) ∙ ap i.from there ∙ i.from_to y in
      sym d ∙ ap (λ (z : NodeOf g). z.0) here ∙ d'

  -- the arcs of a node that has one number in both graphs lead to one node under one feature
  arc_there : (n f t : ℕ) → Pair n n → t < length g → In f t (arcsOf (nodeAt g n)) → (u : ℕ) × In f u (arcsOf (nodeAt h n)) × Pair t u
  arc_there n f t (x, d, e) l m = let y : NodeOf g = (t, l) in ((i.to y).0, rw (← e) ((i.arc_kept x f y).0 (rw d m)), (y, refl, refl))

  arc_here : (n f u : ℕ) → Pair n n → u < length h → In f u (arcsOf (nodeAt h n)) → (t : ℕ) × In f t (arcsOf (nodeAt g n)) × Pair t u
  arc_here n f u (x, d, e) l m =
      let z : NodeOf h = (u, l) in
      let y : NodeOf g = i.from z in
      let arc = (i.arc_kept x f y).1 (rw (i.to_from z, e) m) in
      (y.0, rw (← d) arc, (y, refl, ap (λ (w : NodeOf h). w.0) (i.to_from z)))

-- "So a graph has one image only": canonical graphs that are one but for the numbers of their nodes are equal
pub isomorphic_equal : (g h : Graph) → Canonical g → Canonical h → Isomorphic g h → g ≡ h
isomorphic_equal g h c d i =
    let start : NodeOf g = (0, canonical_some g c) in
    let first : Pair g h i 0 0 = (start, refl, (i.root_kept start).0 refl) in
    canonical_same (Pair g h i) (one_there g h i) (one_here g h i) g h c d first (λ n p. record {
      atom_to = λ a e. rw (← p.2) ((i.atom_kept p.0 a).0 (rw p.1 e));
      atom_from = λ a e. rw (← p.1) ((i.atom_kept p.0 a).1 (rw p.2 e));
      to = λ f t m. arc_there g h i n f t p (omega (arith, numbered_target 0 1 g c n f t m)) m;
      from = λ f u m. arc_here g h i n f u p (omega (arith, numbered_target 0 1 h d n f u m)) m;
    })

-- and their words are the same: node count, then each node in order
pub isomorphic_words : (g h : Graph) → Canonical g → Canonical h → Isomorphic g h → length g ∷ nodes_words g ≡ length h ∷ nodes_words h
isomorphic_words g h c d i = ap (λ (k : Graph). length k ∷ nodes_words k) (isomorphic_equal g h c d i)

-- one graph under two numberings, the first by first arrival: the nodes 1 and 2 change places
abbrev pub arrived : Graph
arrived = arcs ((1, 1) ∷ (2, 2) ∷ []) ∷ atom 10 ∷ atom 11 ∷ []

abbrev pub exchanged : Graph
exchanged = arcs ((1, 2) ∷ (2, 1) ∷ []) ∷ atom 11 ∷ atom 10 ∷ []

abbrev other : ℕ → ℕ
other zero = 0
other (suc zero) = 2
other (suc (suc n)) = 1

other_low : (n : ℕ) → other n < 3
other_low zero = omega arith
other_low (suc zero) = omega arith
other_low (suc (suc n)) = omega arith

other_back : (n : ℕ) → n < 3 → other (other n) ≡ n
other_back zero l = refl
other_back (suc zero) l = refl
other_back (suc (suc n)) l = omega arith

abbrev arc_moved : ℕ × ℕ → ℕ × ℕ
arc_moved p = (p.0, other p.1)

abbrev moved : Node → Node
moved (atom a) = atom a
moved (arcs l) = arcs (map arc_moved l)

moved_in : (v : Node) (f t : ℕ) → In f t (arcsOf v) → In f (other t) (arcsOf (moved v))
moved_in (atom a) f t m = absurd (Memᴰ.not-nil m)
moved_in (arcs l) f t m = map_in arc_moved l (f, t) m

moves_to : (n : ℕ) → n < 3 → nodeAt exchanged (other n) ≡ moved (nodeAt arrived n)
moves_to zero l = refl
moves_to (suc zero) l = refl
moves_to (suc (suc zero)) l = refl
moves_to (suc (suc (suc n))) l = absurd (omega arith)

moves_back : (n : ℕ) → n < 3 → nodeAt arrived n ≡ moved (nodeAt exchanged (other n))
moves_back zero l = refl
moves_back (suc zero) l = refl
moves_back (suc (suc zero)) l = refl
moves_back (suc (suc (suc n))) l = absurd (omega arith)

exchange : Isomorphic arrived exchanged
exchange = record {
  to = λ x. (other x.0, other_low x.0);
  from = λ y. (other y.0, other_low y.0);
  from_to = λ x. same_number arrived (other (other x.0), other_low (other x.0)) x (other_back x.0 x.1);
  to_from = λ y. same_number exchanged (other (other y.0), other_low (other y.0)) y (other_back y.0 y.1);
  root_kept = λ x. (λ r. ap other r, λ r. sym (other_back x.0 x.1) ∙ ap other r);
  atom_kept = λ x a. (λ e. moves_to x.0 x.1 ∙ ap moved e, λ e. moves_back x.0 x.1 ∙ ap moved e);
  arc_kept = λ x f y. (
    λ m. rw (moves_to x.0 x.1) (moved_in (nodeAt arrived x.0) f y.0 m),
    λ m. rw (moves_back x.0 x.1, ← other_back y.0 y.1) (moved_in (nodeAt exchanged (other x.0)) f (other y.0) m),
  );
}

-- isomorphic graphs of which one alone is canonical may differ
pub canonical_needed : Canonical arrived × Isomorphic arrived exchanged × (arrived ≢ exchanged)
canonical_needed = (numbered, exchange, λ e. let z : ◌≡◌ {A = ℕ} 0 1 = cc in absurd (omega arith))
  where
    numbered : Canonical arrived
    numbered = (
      omega arith,
      (omega arith, (omega arith, tt)),
      (omega arith, (omega arith, tt)),
      (omega arith, tt, tt, (omega arith, tt, tt, refl)),
    )
