-- Two graphs clash exactly when there is a smallest node whose class holds a clash; there is one only, and `clash_node?` finds it.
-- Assumes nothing.
use mathlib.Core.Path.{◌≡◌, refl, subst}
use mathlib.Core.Logic.{◌↔◌}
use mathlib.Core.Bool.{Bool}
use mathlib.Core.Option.{Option, none, some}
use mathlib.Core.List.{[], ◌∷◌}
use Prim.Native.Nat.{ℕ, ◌+◌, ◌<◌}
use native.Mathlib.Omega.{arith}
use lib.ListN.{length}
use Rattle.theory.specs.Net.{Graph, Net, self, back, on, roots, ClashOf, atoms, atom_arc, Clash, Agree, beside}
use Rattle.theory.specs.Join.{labels, atom_list}
use Rattle.theory.proofs.Number.{TestLt, less, geq, test_lt}
use Rattle.theory.specs.ClashNode.{ClashAt, two_atoms, atom_and_arc, node_number, NodeClashes, ClashNode}
use Rattle.theory.specs.Located.{two_edges, two_rules, clash_node?}
use Rattle.theory.proofs.NodeNumbers.{number_low}
use Rattle.theory.proofs.Labels.{labelled}
use Rattle.theory.proofs.ClashSearch.{Finding, clash_at, no_node, finds}

-- a net clashes exactly when the class of one of its spots holds a clash
module _ (N : Net) (Seed : N.Spot → N.Spot → Type 0) where
  pub clash_spot : ClashOf N Seed → (x : N.Spot) × ClashAt N Seed x
  clash_spot (atoms {x} {y} s a b u v ne) = (x, two_atoms (self x) s a b u v ne)
  clash_spot (atom_arc {x} {y} s a u f z v) = (x, atom_and_arc (self x) s a u f z v)

  pub spot_clash : (x : N.Spot) → ClashAt N Seed x → ClashOf N Seed
  spot_clash x (two_atoms r s a b u v ne) = atoms (on (back r) s) a b u v ne
  spot_clash x (atom_and_arc r s a u f z v) = atom_arc (on (back r) s) a u f z v

module _ (g h : Graph) where
  node_of : Clash (g ∷ h ∷ []) → (i : ℕ) × NodeClashes g h i
  node_of c = let (x, d) = clash_spot (beside (g ∷ h ∷ [])) (roots (beside (g ∷ h ∷ []))) c in (node_number g h x, (x, refl, d))

  of_node : (i : ℕ) → NodeClashes g h i → Clash (g ∷ h ∷ [])
  of_node i (x, e, c) = spot_clash (beside (g ∷ h ∷ [])) (roots (beside (g ∷ h ∷ []))) x c

  -- what `clash_node?` answers
  pub locates : Finding g h (clash_node? g h)
  unfolding clash_node?
  locates = finds g h (labels (two_rules g h)) (atom_list 0 (g ∷ h ∷ [])) (two_edges g h) (labelled g h)

  -- "Joining two graphs shall tell the smallest node": where they clash there is one
  pub clash_is_somewhere : Clash (g ∷ h ∷ []) → (i : ℕ) × ClashNode g h i
  clash_is_somewhere c = go (clash_node? g h) locates
    where
      go : (o : Option ℕ) → Finding g h o → (i : ℕ) × ClashNode g h i
      go (some i) (clash_at k n) = (i, n)
      go none (no_node f) = let (i, d) = node_of c in absurd (f i d)

  pub somewhere_is_clash : (i : ℕ) → ClashNode g h i → Clash (g ∷ h ∷ [])
  somewhere_is_clash i n = of_node i n.clashing

  pub one_node : (i j : ℕ) → ClashNode g h i → ClashNode g h j → i ≡ j
  one_node i j m n = go (test_lt i j) (test_lt j i)
    where
      go : {s t : Bool} → TestLt i j s → TestLt j i t → i ≡ j
      go (less a) b = absurd (n.smallest i a m.clashing)
      go (geq a) (less b) = absurd (m.smallest j b n.clashing)
      go (geq a) (geq b) = omega arith

  pub node_low : (i : ℕ) → ClashNode g h i → i < length g + length h
  node_low i n = let (x, e, c) = n.clashing in omega (arith, number_low g h x)

  -- the program and the definition are one
  pub located_iff : (i : ℕ) → (clash_node? g h ≡ some i) ↔ ClashNode g h i
  located_iff i = (to (clash_node? g h) locates, from (clash_node? g h) locates)
    where
      to : (o : Option ℕ) → Finding g h o → o ≡ some i → ClashNode g h i
      to (some j) (clash_at k n) e = let d : j ≡ i = cc in subst (ClashNode g h) d n
      to none (no_node f) e = let z : ◌≡◌ {A = ℕ} 0 1 = cc in absurd (omega arith)

      from : (o : Option ℕ) → Finding g h o → ClashNode g h i → o ≡ some i
      from (some j) (clash_at k m) n = let d : j ≡ i = one_node j i m n in cc
      from none (no_node f) n = absurd (f i n.clashing)

  pub agree_iff : (clash_node? g h ≡ none) ↔ Agree (g ∷ h ∷ [])
  agree_iff = (to (clash_node? g h) locates, from (clash_node? g h) locates)
    where
      to : (o : Option ℕ) → Finding g h o → ◌≡◌ {A = Option ℕ} o none → Agree (g ∷ h ∷ [])
      to (some j) (clash_at k n) e = let z : ◌≡◌ {A = ℕ} 0 1 = cc in absurd (omega arith)
      to none (no_node f) e = λ c. (let (i, d) = node_of c in f i d)

      from : (o : Option ℕ) → Finding g h o → Agree (g ∷ h ∷ []) → ◌≡◌ {A = Option ℕ} o none
      from (some j) (clash_at k n) a = absurd (a (somewhere_is_clash j n))
      from none (no_node f) a = refl
