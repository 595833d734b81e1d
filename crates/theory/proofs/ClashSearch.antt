-- Under labels that are the classes, the test of a node says whether its class holds a clash, and the search finds the first such node.
-- Assumes nothing.
use mathlib.Core.Path.{◌≡◌, ap, sym, ◌∙◌, subst}
use mathlib.Core.Logic.{◌⊎◌, inl, inr, ⊎_elim}
use mathlib.Core.Bool.{Bool, true, false}
use mathlib.Core.Option.{Option, none, some}
use mathlib.Core.List.Memᴰ
use mathlib.Core.List.{List, [], ◌∷◌, Memᴰ}
use Prim.Native.Nat.{ℕ, zero, suc, ◌+◌, ◌≤◌, ◌<◌}
use native.Mathlib.Omega.{arith}
use lib.ListN.{length}
use lib.Dec.{eqb}
use Rattle.theory.specs.Net.{Graph, Net, Same, beside, roots}
use Rattle.theory.specs.Join.{Edge, clashes}
use Rattle.theory.proofs.Correct.{ClashView, two_atoms, atom_and_arc, no_clash, clash_view}
use Rattle.theory.proofs.Number.{TestLt, less, geq, test_lt}
use Rattle.descriptions.proofs.Tests.{Test, equal, differ, test, Tells, holds, fails, tells_map}
use Rattle.theory.specs.ClashNode.{ClashAt, two_atoms, atom_and_arc, node_number, NodeClashes, ClashNode}
use Rattle.theory.specs.Located.{atoms_under, clashes_at, first_from}
use Rattle.theory.proofs.NodeNumbers.{number_one, number_low, spot_at}
use Rattle.theory.proofs.Labels.{Labelled}

abbrev Pair : Type 0
Pair = ℕ × ℕ

-- the atoms under a label
module _ (lab : ℕ → ℕ) (i : ℕ) where
  under_in : (l : List Pair) (p : Pair) → Memᴰ p l → lab p.0 ≡ lab i → Memᴰ p (atoms_under lab i l)
  under_in [] p m e = absurd (Memᴰ.not-nil m)
  under_in (q ∷ l) p m e = go (eqb (lab q.0) (lab i)) (test (lab q.0) (lab i)) (Memᴰ.cases_cons m) (λ j. under_in l p j e)
    where
      go : (t : Bool) → Test (lab q.0) (lab i) t → (p ≡ q) ⊎ Memᴰ p l → (Memᴰ p l → Memᴰ p (atoms_under lab i l)) →
          Memᴰ p (elim t [ true ↦ q ∷ atoms_under lab i l | false ↦ atoms_under lab i l ])
      go true x (inl d) s = Memᴰ.head d
      go true x (inr j) s = Memᴰ.tail (s j)
      go false (differ n) (inl d) s = absurd (n (ap (λ (z : Pair). lab z.0) (sym d) ∙ e))
      go false x (inr j) s = s j

  under_from : (l : List Pair) (p : Pair) → Memᴰ p (atoms_under lab i l) → Memᴰ p l × (lab p.0 ≡ lab i)
  under_from [] p m = absurd (Memᴰ.not-nil m)
  under_from (q ∷ l) p m = go (eqb (lab q.0) (lab i)) (test (lab q.0) (lab i)) m (under_from l p)
    where
      Out : List Pair → Type 0
      Out l = Memᴰ p l × (lab p.0 ≡ lab i)

      up : Out l → Out (q ∷ l)
      up (j, e) = (Memᴰ.tail j, e)

      go : (t : Bool) → Test (lab q.0) (lab i) t →
          Memᴰ p (elim t [ true ↦ q ∷ atoms_under lab i l | false ↦ atoms_under lab i l ]) →
          (Memᴰ p (atoms_under lab i l) → Out l) → Out (q ∷ l)
      go true (equal e) j s = ⊎_elim (λ d. (Memᴰ.head d, ap (λ (z : Pair). lab z.0) d ∙ e)) (λ k. up (s k)) (Memᴰ.cases_cons j)
      go false x j s = up (s j)

-- the test of a node
module _ (N : Net) (Seed : N.Spot → N.Spot → Type 0) (number : N.Spot → ℕ) (lab : ℕ → ℕ) (at : List Pair) (es : List Edge)
    (l : Labelled N Seed number lab at es) (x : N.Spot) where
  abbrev mine : List Pair
  mine = atoms_under lab (number x) at

  -- what stands under the label of x is in the class of x
  atom_mine : (p : Pair) → Memᴰ p at → lab p.0 ≡ lab (number x) → (y : N.Spot) × Same N Seed x y × N.Atom y p.1
  atom_mine p m e = let (y, d, u) = l.atom_from p m in (y, l.apart x y (sym (ap lab d ∙ e)), u)

  arc_mine : (e : Edge) → Memᴰ e es → lab e.0 ≡ lab (number x) →
      (y : N.Spot) × (z : N.Spot) × Same N Seed x y × N.Arc y e.1 z
  arc_mine e m d = let (y, z, a, b, u) = l.edge_from e m in (y, z, l.apart x y (sym (ap lab a ∙ d)), u)

  found : ClashView lab at es mine true → ClashAt N Seed x
  found (two_atoms p q m n d e) =
      let (i, h) = under_from lab (number x) at p m in
      let (y, r, u) = atom_mine p i h in
      let (z, s, v) = atom_mine q n (sym d ∙ h) in
      two_atoms r s p.1 q.1 u v e
  found (atom_and_arc p e m n d) =
      let (i, h) = under_from lab (number x) at p m in
      let (y, r, u) = atom_mine p i h in
      let (z, t, s, v) = arc_mine e n (sym d ∙ h) in
      atom_and_arc r s p.1 u e.1 t v

  missed : ClashView lab at es mine false → ClashAt N Seed x → ⊥
  missed (no_clash s t) (two_atoms {y} {z} r q a b u v ne) =
      let d = l.together r in
      let e = l.together q in
      let i = under_in lab (number x) at (number y, a) (l.atom_in y a u) (sym d) in
      ne (s (number y, a) (number z, b) i (l.atom_in z b v) (sym d ∙ e))
  missed (no_clash s t) (atom_and_arc {y} {z} r q a u f w v) =
      let d = l.together r in
      let e = l.together q in
      let i = under_in lab (number x) at (number y, a) (l.atom_in y a u) (sym d) in
      t (number y, a) i (number z, f, number w) (l.edge_of z f w v) (sym d ∙ e)

  pub tells_clash : Tells (ClashAt N Seed x) (clashes_at lab at es (number x))
  tells_clash = go (clashes lab mine at es) (clash_view lab at es mine)
    where
      go : (t : Bool) → ClashView lab at es mine t → Tells (ClashAt N Seed x) t
      go true v = holds (found v)
      go false v = fails (missed v)

-- the search
module _ (P : ℕ → Type 0) where
  pub data First (k n : ℕ) : Option ℕ → Type 0 where
    first : (i : ℕ) → i < k + n → P i → ((j : ℕ) → k ≤ j → j < i → ¬ (P j)) → First k n (some i)
    nowhere : ((j : ℕ) → k ≤ j → j < k + n → ¬ (P j)) → First k n none

  pub first_view : (p : ℕ → Bool) (k n : ℕ) → ((j : ℕ) → k ≤ j → j < k + n → Tells (P j) (p j)) → First k n (first_from p k n)
  first_view p k zero t = nowhere (λ j a b. absurd (omega arith))
  first_view p k (suc n) t = go (p k) (t k (omega arith) (omega arith)) (first_from p (suc k) n)
      (first_view p (suc k) n (λ j a b. t j (omega arith) (omega arith)))
    where
      after : ¬ (P k) → (j : ℕ) → k ≤ j → (suc k ≤ j → ¬ (P j)) → ¬ (P j)
      after f j a s q = split (test_lt k j)
        where
          split : {b : Bool} → TestLt k j b → ⊥
          split (less h) = s h q
          split (geq h) = let e : j ≡ k = omega arith in f (subst P e q)

      later : ¬ (P k) → (o : Option ℕ) → First (suc k) n o → First k (suc n) o
      later f (some i) (first m h q s) = first i (omega arith) q (λ j a b. after f j a (λ c. s j c b))
      later f none (nowhere s) = nowhere (λ j a b. after f j a (λ c. s j c (omega arith)))

      go : (b : Bool) → Tells (P k) b → (o : Option ℕ) → First (suc k) n o → First k (suc n) (elim b [ true ↦ some k | false ↦ o ])
      go true (holds q) o s = first k (omega arith) q (λ j a c. absurd (omega arith))
      go false (fails f) o s = later f o s

-- what a search among the nodes of two graphs may answer
pub data Finding (g h : Graph) : Option ℕ → Type 0 where
  clash_at : (i : ℕ) → ClashNode g h i → Finding g h (some i)
  no_node : ((i : ℕ) → ¬ (NodeClashes g h i)) → Finding g h none

-- under labels that are the classes of two graphs the search answers with the node where they clash
module _ (g h : Graph) (lab : ℕ → ℕ) (at : List Pair) (es : List Edge)
    (l : Labelled (beside (g ∷ h ∷ [])) (roots (beside (g ∷ h ∷ []))) (node_number g h) lab at es) where
  abbrev N : Net
  N = beside (g ∷ h ∷ [])

  pub tells_node : (i : ℕ) → i < length g + length h → Tells (NodeClashes g h i) (clashes_at lab at es i)
  tells_node i low = let (x, e) = spot_at g h i low in
      subst (λ (j : ℕ). Tells (NodeClashes g h i) (clashes_at lab at es j)) e
      (tells_map (λ c. (x, e, c)) (other x e) (tells_clash N (roots N) (node_number g h) lab at es l x))
    where
      other : (x : N.Spot) → node_number g h x ≡ i → NodeClashes g h i → ClashAt N (roots N) x
      other x e (y, d, c) = subst (ClashAt N (roots N)) (number_one g h y x (d ∙ sym e)) c

  pub finds : Finding g h (first_from (clashes_at lab at es) 0 (length g + length h))
  finds = go (first_from (clashes_at lab at es) 0 (length g + length h))
      (first_view (NodeClashes g h) (clashes_at lab at es) 0 (length g + length h) (λ j a b. tells_node j (omega arith)))
    where
      low : (i : ℕ) → NodeClashes g h i → i < length g + length h
      low i (x, e, c) = omega (arith, number_low g h x)

      go : (o : Option ℕ) → First (NodeClashes g h) 0 (length g + length h) o → Finding g h o
      go (some i) (first m b c s) = clash_at i (record { clashing = c; smallest = λ j a. s j (omega arith) a })
      go none (nowhere s) = no_node (λ i c. s i (omega arith) (omega (arith, low i c)) c)
