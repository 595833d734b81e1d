-- Laws of the part of an alternative: the rows that have come to it are those of the alternatives named.
-- Assumes nothing.
use Prim.Native.Nat.{ℕ, ◌<◌}
use mathlib.Core.Path.{◌≡◌, refl, ap, sym, ◌∙◌, subst}
use mathlib.Core.Logic.{inl, inr, ⊎_elim}
use mathlib.Core.List.{List, [], ◌∷◌, ◌++◌, Memᴰ}
use mathlib.Core.List.{append_assoc}
use lib.ListN.{length, get_or}
use Rattle.theory.specs.Join.{Edge}
use Rattle.formulas.specs.Sheet.{Sheet, ◌plus◌, of_edges}
use Rattle.formulas.specs.Flat.{Item, given_to}
use Rattle.formulas.specs.Homes.{all_picked}
use Rattle.formulas.specs.Tables.{Tables, edge, Trail, TablesFit}
use Rattle.parting.specs.Parted.{Part}

-- the rows of each number in a list
abbrev gathered : {X : Type 0} → (ℕ → List X) → List ℕ → List X
gathered f [] = []
gathered f (j ∷ J) = f j ++ gathered f J

module _ {X : Type 0} (f : ℕ → List X) where
  in_gathered : (x : X) (j : ℕ) (J : List ℕ) → Memᴰ j J → Memᴰ x (f j) → Memᴰ x (gathered f J)
  in_gathered x j [] m h = absurd (mathlib.Core.List.Memᴰ.not-nil m)
  in_gathered x j (i ∷ J) m h = ⊎_elim
      (λ (e : j ≡ i). mathlib.Core.List.Memᴰ.append_left (gathered f J) (subst (λ (z : ℕ). Memᴰ x (f z)) e h))
      (λ (n : Memᴰ j J). mathlib.Core.List.Memᴰ.append_right (f i) (in_gathered x j J n h)) (mathlib.Core.List.Memᴰ.cases_cons m)

  of_gathered : (x : X) (J : List ℕ) → Memᴰ x (gathered f J) → (j : ℕ) × Memᴰ j J × Memᴰ x (f j)
  of_gathered x [] m = absurd (mathlib.Core.List.Memᴰ.not-nil m)
  of_gathered x (i ∷ J) m = ⊎_elim (λ (h : Memᴰ x (f i)). (i, mathlib.Core.List.Memᴰ.head refl, h))
      (λ (h : Memᴰ x (gathered f J)). let (j, n, q) = of_gathered x J h in (j, mathlib.Core.List.Memᴰ.tail n, q)) (mathlib.Core.List.Memᴰ.append_cases (f i) m)

edges_are : (L : List Item) (J : List ℕ) → (all_picked J L).edges ≡ gathered (λ j. (given_to j L).edges) J
edges_are L [] = refl
edges_are L (j ∷ J) = ap (λ (z : List Edge). (given_to j L).edges ++ z) (edges_are L J)

atoms_are : (L : List Item) (J : List ℕ) → (all_picked J L).atoms ≡ gathered (λ j. (given_to j L).atoms) J
atoms_are L [] = refl
atoms_are L (j ∷ J) = ap (λ (z : List (ℕ × ℕ)). (given_to j L).atoms ++ z) (atoms_are L J)

ties_are : (L : List Item) (J : List ℕ) → (all_picked J L).ties ≡ gathered (λ j. (given_to j L).ties) J
ties_are L [] = refl
ties_are L (j ∷ J) = ap (λ (z : List (ℕ × ℕ)). (given_to j L).ties ++ z) (ties_are L J)

-- J has exactly the numbers of what has come to k
module _ (hm : List ℕ) (k : ℕ) (J : List ℕ) (come : (j : ℕ) → Memᴰ j J → get_or hm j 0 ≡ k)
    (all : (j : ℕ) → j < length hm → get_or hm j 0 ≡ k → Memᴰ j J) where
  module _ {X : Type 0} (count : ℕ) (home : ℕ → ℕ) (row : ℕ → X) (f : ℕ → List X)
      (low : (i : ℕ) → i < count → home i < length hm)
      (there : (i : ℕ) → i < count → Memᴰ (row i) (f (home i)))
      (back : (j : ℕ) (x : X) → Memᴰ x (f j) → (i : ℕ) × (i < count) × (home i ≡ j) × (x ≡ row i))
      (l : List X) (is : l ≡ gathered f J) where
    rows_in : (i : ℕ) → i < count → get_or hm (home i) 0 ≡ k → Memᴰ (row i) l
    rows_in i h e = subst (λ (z : List X). Memᴰ (row i) z) (sym is) (in_gathered f (row i) (home i) J (all (home i) (low i h) e) (there i h))

    rows_of : (x : X) → Memᴰ x l → (i : ℕ) × (i < count) × (get_or hm (home i) 0 ≡ k) × (x ≡ row i)
    rows_of x m =
        let (j, n, h) = of_gathered f x J (subst (λ (z : List X). Memᴰ x z) is m) in
        let (i, b, e, q) = back j x h in
        (i, b, subst (λ (z : ℕ). get_or hm z 0 ≡ k) (sym e) (come j n), q)

  module _ (T : Tables) (L : List Item) (fit : TablesFit T L (length hm)) (es : List Edge) (t : Trail T (T.spot k) es) where
    gathered_part : Part T hm k (of_edges es plus all_picked J L)
    gathered_part =
        let w = fit.tabled in
        record {
          trail = es;
          trails = t;
          on_trail = λ e m. mathlib.Core.List.Memᴰ.append_left (all_picked J L).edges m;
          arc_in = λ i h e. mathlib.Core.List.Memᴰ.append_right es (rows_in T.arcs T.arc_home (edge T) (λ j. (given_to j L).edges) fit.arc_homes w.arc_in w.arc_of
              (all_picked J L).edges (edges_are L J) i h e);
          arc_of = λ e m. ⊎_elim (λ (h : Memᴰ e es). inl h)
              (λ (h : Memᴰ e (all_picked J L).edges). inr (rows_of T.arcs T.arc_home (edge T) (λ j. (given_to j L).edges) fit.arc_homes w.arc_in
              w.arc_of (all_picked J L).edges (edges_are L J) e h)) (mathlib.Core.List.Memᴰ.append_cases es m);
          atoms = record {
            in_list = rows_in T.atoms T.atom_home T.atom (λ j. (given_to j L).atoms) fit.atom_homes w.atom_in w.atom_of
                (all_picked J L).atoms (atoms_are L J);
            of_list = rows_of T.atoms T.atom_home T.atom (λ j. (given_to j L).atoms) fit.atom_homes w.atom_in w.atom_of
                (all_picked J L).atoms (atoms_are L J);
          };
          ties = record {
            in_list = rows_in T.ties T.tie_home T.tie (λ j. (given_to j L).ties) fit.tie_homes w.tie_in w.tie_of
                (all_picked J L).ties (ties_are L J);
            of_list = rows_of T.ties T.tie_home T.tie (λ j. (given_to j L).ties) fit.tie_homes w.tie_in w.tie_of
                (all_picked J L).ties (ties_are L J);
          };
        }

plus_on : (es : List Edge) (A B : Sheet) → (of_edges es plus A) plus B ≡ of_edges es plus (A plus B)
plus_on es A B = ap {B = Sheet} (λ (z : List Edge). record { edges = z; atoms = A.atoms ++ B.atoms; ties = A.ties ++ B.ties })
    (append_assoc es A.edges B.edges)

-- the sheet of k and the rows of what is folded into it are its part
pub part_is : (hm : List ℕ) (k : ℕ) (J : List ℕ) → ((j : ℕ) → Memᴰ j (k ∷ J) → get_or hm j 0 ≡ k) →
    ((j : ℕ) → j < length hm → get_or hm j 0 ≡ k → Memᴰ j (k ∷ J)) → (T : Tables) (L : List Item) → TablesFit T L (length hm) →
    (es : List Edge) → Trail T (T.spot k) es → (A : Sheet) → A ≡ of_edges es plus given_to k L → Part T hm k (A plus all_picked J L)
part_is hm k J come all T L fit es t A e =
    let same : A plus all_picked J L ≡ of_edges es plus all_picked (k ∷ J) L =
    ap {B = Sheet} (λ (z : Sheet). z plus all_picked J L) e ∙ plus_on es (given_to k L) (all_picked J L) in
    subst (λ (z : Sheet). Part T hm k z) (sym same) (gathered_part hm k (k ∷ J) come all T L fit es t)
