-- The graphs of a part are canonical, and its shared ends have the numbers that the program gives them.
-- Assumes nothing.
use mathlib.Core.Path.{◌≡◌, refl, ap, sym}
use mathlib.Core.Logic.{◌⊎◌, inl, inr}
use mathlib.Core.List.Memᴰ
use mathlib.Core.List.{List, [], ◌∷◌, Memᴰ}
use Prim.Native.Nat.{ℕ, suc, ◌+◌, ◌<◌, max}
use native.Mathlib.Omega.{arith}
use lib.ListN.{length}
use Rattle.theory.specs.Net.{Node, atom, arcs, Graph, arcsOf, beside, Numbered}
use Rattle.theory.proofs.Instance.{AllCanonical, code}
use Rattle.formulas.specs.Formula.{Path}
use Rattle.formulas.specs.Part.{Fact, reach, bears, share, chain, bare, fact_graphs, whole, part, EndsShared, shared_ends}

pub chain_length : (k : ℕ) (p : Path) (v : Node) → length (chain k p v) ≡ suc (length p)
chain_length k [] v = refl
chain_length k (f ∷ p) v = ap suc (chain_length (suc k) p v)

pub chain_canonical : (k : ℕ) (p : Path) (v : Node) → arcsOf v ≡ [] → Numbered k (suc k) (chain k p v)
chain_canonical k [] v e = rw e (omega arith, tt, tt, refl)
chain_canonical k (f ∷ p) v e =
    let m : max (suc k) (suc (suc k)) ≡ suc (suc k) = omega arith in
    (omega arith, (omega arith, tt), (omega arith, tt), rw m (chain_canonical (suc k) p v e))

pub graphs_canonical : (F : List Fact) (gs : List Graph) → AllCanonical gs → AllCanonical (fact_graphs F gs)
graphs_canonical [] gs c = c
graphs_canonical (reach p ∷ F) gs c = (chain_canonical 0 p (arcs []) refl, graphs_canonical F gs c)
graphs_canonical (bears p a ∷ F) gs c = (chain_canonical 0 p (atom a) refl, graphs_canonical F gs c)
graphs_canonical (share p q ∷ F) gs c = (chain_canonical 0 p (arcs []) refl, (chain_canonical 0 q (arcs []) refl, graphs_canonical F gs c))

pub whole_canonical : (F : List Fact) (gs : List Graph) → AllCanonical gs → AllCanonical (whole F gs)
whole_canonical F gs c = (chain_canonical 0 [] (arcs []) refl, graphs_canonical F gs c)

-- the root that says nothing
abbrev pub first : (F : List Fact) (gs : List Graph) → (part F gs).Spot
first F gs = inl (0, omega arith)

-- the end of a path
pub last : (p : Path) (v : Node) → length p < length (chain 0 p v)
last p v = omega (arith, chain_length 0 p v)

abbrev Pair : Type 0
Pair = ℕ × ℕ

pub ends_in : (o : ℕ) (F : List Fact) (gs : List Graph) (x y : (beside (fact_graphs F gs)).Spot) → EndsShared F gs x y →
    Memᴰ {A = Pair} (code o (fact_graphs F gs) x, code o (fact_graphs F gs) y) (shared_ends o F)
ends_in o [] gs x y e = absurd e
ends_in o (reach p ∷ F) gs (inl x) y e = absurd e
ends_in o (reach p ∷ F) gs (inr x) (inl y) e = absurd e
ends_in o (reach p ∷ F) gs (inr x) (inr y) e = ends_in (o + length (bare p)) F gs x y e
ends_in o (bears p a ∷ F) gs (inl x) y e = absurd e
ends_in o (bears p a ∷ F) gs (inr x) (inl y) e = absurd e
ends_in o (bears p a ∷ F) gs (inr x) (inr y) e = ends_in (o + length (chain 0 p (atom a))) F gs x y e
ends_in o (share p q ∷ F) gs (inl x) (inl y) e = absurd e
ends_in o (share p q ∷ F) gs (inl x) (inr (inl y)) e = Memᴰ.head (λ i. (o + e.0 i, o + length (bare p) + e.1 i))
ends_in o (share p q ∷ F) gs (inl x) (inr (inr y)) e = absurd e
ends_in o (share p q ∷ F) gs (inr (inl x)) y e = absurd e
ends_in o (share p q ∷ F) gs (inr (inr x)) (inl y) e = absurd e
ends_in o (share p q ∷ F) gs (inr (inr x)) (inr (inl y)) e = absurd e
ends_in o (share p q ∷ F) gs (inr (inr x)) (inr (inr y)) e = Memᴰ.tail (ends_in (o + length (bare p) + length (bare q)) F gs x y e)

abbrev pub Ended : ℕ → List Fact → List Graph → Pair → Type 0
Ended o F gs n = (x : (beside (fact_graphs F gs)).Spot) × (y : (beside (fact_graphs F gs)).Spot) × (code o (fact_graphs F gs) x ≡ n.0)
    × (code o (fact_graphs F gs) y ≡ n.1) × EndsShared F gs x y

pub ends_from : (o : ℕ) (F : List Fact) (gs : List Graph) (n : Pair) → Memᴰ n (shared_ends o F) → Ended o F gs n
ends_from o [] gs n m = absurd (Memᴰ.not-nil m)
ends_from o (reach p ∷ F) gs n m = let (x, y, a, b, e) = ends_from (o + length (bare p)) F gs n m in (inr x, inr y, a, b, e)
ends_from o (bears p a ∷ F) gs n m = let (x, y, a, b, e) = ends_from (o + length (chain 0 p (atom a))) F gs n m in (inr x, inr y, a, b, e)
ends_from o (share p q ∷ F) gs n m = go (Memᴰ.cases_cons m) (ends_from (o + length (bare p) + length (bare q)) F gs n)
  where
    go : (◌≡◌ {A = Pair} n (o + length p, o + length (bare p) + length q))
        ⊎ Memᴰ n (shared_ends (o + length (bare p) + length (bare q)) F) →
        (Memᴰ n (shared_ends (o + length (bare p) + length (bare q)) F) → Ended (o + length (bare p) + length (bare q)) F gs n) →
        Ended o (share p q ∷ F) gs n
    go (inl h) s = (
      inl (length p, last p (arcs [])),
      inr (inl (length q, last q (arcs []))),
      sym (ap (λ (z : Pair). z.0) h),
      sym (ap (λ (z : Pair). z.1) h),
      (refl, refl),
    )
    go (inr i) s = let (x, y, a, b, e) = s i in (inr (inr x), inr (inr y), a, b, e)
