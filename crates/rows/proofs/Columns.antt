-- The rows of a list of items by their numbers: which item each is of, and that their homes and spots are low.
-- Assumes nothing.
use Prim.Native.Nat.{ℕ, zero, suc, ◌+◌, ◌<◌, ◌≤◌}
use mathlib.Core.Path.{◌≡◌, refl, sym, ap, subst, ◌∙◌}
use mathlib.Core.Logic.{◌⊎◌, inl, inr, ⊎_elim}
use mathlib.Core.Bool.{Bool, true, false}
use mathlib.Core.List.Memᴰ
use mathlib.Core.List.{List, [], ◌∷◌, ◌++◌, Memᴰ}
use native.Mathlib.Omega.{arith}
use lib.ListN.{length}
use lib.Dec.{eqb}
use borrow.Author.Tests.{eqb-true, eq-eqb}
use Rattle.theory.specs.Join.{Edge}
use Rattle.formulas.specs.Formula.{Path, Formula, nil, top, atom, at, same, all, any, Formulas, one, ◌also◌}
use Rattle.formulas.specs.Sheet.{Sheet, blank_sheet, ◌plus◌, of_edges, of_atom, way, way_end, tied, count, counts}
use Rattle.formulas.specs.Flat.{Item, width, widths, ranks, flat_items, flat_all, flat_any, flattened, given_to}
use Rattle.rows.specs.Machine.{in_home, rows_of}
use Rattle.rows.specs.Memory.{ListedFrom}
use Rattle.rows.specs.Laid.{mapped, ArcsNumbered}
use Rattle.rows.proofs.Numbered.{way_end_low}

-- ---- the element with a number
abbrev pub Numbers : {X : Type 0} → List X → ℕ → X → Type 0
Numbers [] i x = ⊥
Numbers (y ∷ l) zero x = x ≡ y
Numbers (y ∷ l) (suc i) x = Numbers l i x

-- a number below the length has one
pub numbers_some : {X : Type 0} (l : List X) (i : ℕ) → i < length l → (x : X) × Numbers l i x
numbers_some [] i b = absurd (omega arith)
numbers_some (y ∷ l) zero b = (y, refl)
numbers_some (y ∷ l) (suc i) b = numbers_some l i (omega arith)

-- and what has a number has one below the length
pub numbers_below : {X : Type 0} (l : List X) (i : ℕ) (x : X) → Numbers l i x → i < length l
numbers_below [] i x p = absurd p
numbers_below (y ∷ l) zero x p = omega arith
numbers_below (y ∷ l) (suc i) x p = let b = numbers_below l i x p in omega (arith, b)

-- it is in the list
pub numbers_in : {X : Type 0} (l : List X) (i : ℕ) (x : X) → Numbers l i x → Memᴰ x l
numbers_in [] i x p = absurd p
numbers_in (y ∷ l) zero x p = Memᴰ.head p
numbers_in (y ∷ l) (suc i) x p = Memᴰ.tail (numbers_in l i x p)

-- and what is in the list has a number
pub in_numbers : {X : Type 0} (x : X) (l : List X) → Memᴰ x l → (i : ℕ) × Numbers l i x
in_numbers x l (Memᴰ.head e) = (0, e)
in_numbers x l (Memᴰ.tail {xs = m} p) = let r = in_numbers x m p in (suc r.0, r.1)

-- a column that lists a list has its words by number
pub listed_at : {X : Type 0} (g : ℕ → ℕ) (f : X → ℕ) (m : ℕ) (l : List X) (i : ℕ) (x : X) → ListedFrom g m (mapped f l) → Numbers l i x →
    g (m + i) ≡ f x
listed_at g f m [] i x p q = absurd q
listed_at g f m (y ∷ l) zero x p q = let e : m + 0 ≡ m = omega arith in ap g e ∙ p.0 ∙ ap f (sym q)
listed_at g f m (y ∷ l) (suc i) x p q = let e : m + suc i ≡ suc m + i = omega arith in ap g e ∙ listed_at g f (suc m) l i x p.1 q

-- numbered arcs lead to the spots with their numbers, each from a lower one
pub numbered_at : (n : ℕ) (l : List (ℕ × Edge)) (i : ℕ) (e : ℕ × Edge) → ArcsNumbered n l → Numbers l i e →
    (e.1.2 ≡ n + i) × (e.1.0 < n + i)
numbered_at n [] i e p q = absurd q
numbered_at n (d ∷ l) zero e p q =
    let z : n ≡ n + 0 = omega arith in
    let low : e.1.0 < n = subst (λ (x : ℕ × Edge). x.1.0 < n) (sym q) p.1 in
    (ap (λ (x : ℕ × Edge). x.1.2) q ∙ p.0 ∙ z, omega (arith, low))
numbered_at n (d ∷ l) (suc i) e p q =
    let r = numbered_at (suc n) l i e p.2 q in
    let r0 = r.0 in
    let r1 = r.1 in
    (omega (arith, r0), omega (arith, r1))

-- ---- rows with their homes
-- what is in a list is there with its home
home_in : {X : Type 0} (h : ℕ) (x : X) (l : List X) → Memᴰ x l → Memᴰ (h, x) (in_home h l)
home_in h x l (Memᴰ.head e) = Memᴰ.head (λ i. (h, e i))
home_in h x l (Memᴰ.tail {xs = m} p) = Memᴰ.tail (home_in h x m p)

-- and what has a home there has that one
in_home_of : {X : Type 0} (h : ℕ) (l : List X) (p : ℕ × X) → Memᴰ p (in_home h l) → (p.0 ≡ h) × Memᴰ p.1 l
in_home_of h [] p m = absurd (Memᴰ.not-nil m)
in_home_of {X} h (x ∷ l) p m = go (Memᴰ.cases_cons m) (in_home_of h l p) where
  go : (p ≡ (h, x)) ⊎ Memᴰ p (in_home h l) → (Memᴰ p (in_home h l) → (p.0 ≡ h) × Memᴰ p.1 l) →
      (p.0 ≡ h) × Memᴰ p.1 (x ∷ l)
  go (inl e) f = (ap (λ (q : ℕ × X). q.0) e, Memᴰ.head (ap (λ (q : ℕ × X). q.1) e))
  go (inr q) f = let r = f q in (r.0, Memᴰ.tail r.1)

-- one kind of rows of sheets and of lists of items
pub record Column {X : Type 0} (kind : Sheet → List X) (rows : List Item → List (ℕ × X)) : Type 0 where
  pub blank : kind blank_sheet ≡ []
  pub both : (A B : Sheet) → kind (A plus B) ≡ kind A ++ kind B
  pub none : rows [] ≡ []
  pub more : (x : Item) (l : List Item) → rows (x ∷ l) ≡ in_home x.0 (kind x.1) ++ rows l

-- arcs are one kind
pub arc_column : Column (λ A. A.edges) (λ L. (rows_of L).arcs)
arc_column = record { blank = refl; both = λ A B. refl; none = refl; more = λ x l. refl }

-- so are atoms
pub atom_column : Column (λ A. A.atoms) (λ L. (rows_of L).bears)
atom_column = record { blank = refl; both = λ A B. refl; none = refl; more = λ x l. refl }

-- and ties
pub tie_column : Column (λ A. A.ties) (λ L. (rows_of L).shares)
tie_column = record { blank = refl; both = λ A B. refl; none = refl; more = λ x l. refl }

module _ {X : Type 0} (kind : Sheet → List X) (rows : List Item → List (ℕ × X)) (column : Column kind rows) where
  -- a row is one of an item
  abbrev Sourced : List Item → ℕ × X → Type 0
  Sourced L p = (x : Item) × Memᴰ x L × (p.0 ≡ x.0) × Memᴰ p.1 (kind x.1)

  -- of a longer list too
  sourced_later : (y : Item) (L : List Item) (p : ℕ × X) → Sourced L p → Sourced (y ∷ L) p
  sourced_later y L p r = (r.0, Memᴰ.tail r.1, r.2, r.3)

  -- so is each of the list's
  pub row_sourced : (L : List Item) (p : ℕ × X) → Memᴰ p (rows L) → Sourced L p
  row_sourced [] p m = absurd (Memᴰ.not-nil (subst (Memᴰ p) column.none m))
  row_sourced (y ∷ L) p m =
      go (Memᴰ.append_cases (in_home y.0 (kind y.1)) (subst (Memᴰ p) (column.more y L) m)) (row_sourced L p) where
        go : Memᴰ p (in_home y.0 (kind y.1)) ⊎ Memᴰ p (rows L) → (Memᴰ p (rows L) → Sourced L p) → Sourced (y ∷ L) p
        go (inl q) f = let r = in_home_of y.0 (kind y.1) p q in (y, Memᴰ.head refl, r.0, r.1)
        go (inr q) f = sourced_later y L p (f q)

  -- and all that is given to an alternative
  given_sourced : (L : List Item) (j : ℕ) (e : X) → Memᴰ e (kind (given_to j L)) → Sourced L (j, e)
  given_sourced [] j e m = absurd (Memᴰ.not-nil (subst (Memᴰ e) column.blank m))
  given_sourced (y ∷ L) j e m = go (eqb j y.0) refl m (given_sourced L j e) where
    here : j ≡ y.0 → Memᴰ e (kind y.1) ⊎ Memᴰ e (kind (given_to j L)) →
        (Memᴰ e (kind (given_to j L)) → Sourced L (j, e)) → Sourced (y ∷ L) (j, e)
    here z (inl q) f = (y, Memᴰ.head refl, z, q)
    here z (inr q) f = sourced_later y L (j, e) (f q)

    go : (t : Bool) → eqb j y.0 ≡ t → Memᴰ e (kind (elim t [ true ↦ y.1 plus given_to j L | false ↦ given_to j L ])) →
        (Memᴰ e (kind (given_to j L)) → Sourced L (j, e)) → Sourced (y ∷ L) (j, e)
    go true z q f = here (eqb-true j y.0 z)
        (Memᴰ.append_cases (kind y.1) (subst (Memᴰ e) (column.both y.1 (given_to j L)) q)) f
    go false z q f = sourced_later y L (j, e) (f q)

  -- a row of an item is one of the list
  source_row : (x : Item) (e : X) (L : List Item) → Memᴰ x L → Memᴰ e (kind x.1) → Memᴰ (x.0, e) (rows L)
  source_row x e L (Memᴰ.head {x = y} {xs = l} z) q =
      subst (Memᴰ (x.0, e)) (sym (column.more y l)) (Memᴰ.append_left (rows l)
      (subst (λ (v : Item). Memᴰ (x.0, e) (in_home v.0 (kind v.1))) z (home_in x.0 e (kind x.1) q)))
  source_row x e L (Memᴰ.tail {x = y} {xs = l} m) q =
      subst (Memᴰ (x.0, e)) (sym (column.more y l)) (Memᴰ.append_right (in_home y.0 (kind y.1)) (source_row x e l m q))

  -- and is given to the item's home
  source_given : (x : Item) (e : X) (L : List Item) → Memᴰ x L → Memᴰ e (kind x.1) → Memᴰ e (kind (given_to x.0 L))
  source_given x e L (Memᴰ.head {x = y} {xs = l} z) q = go (eqb x.0 y.0) (eq-eqb x.0 y.0 (ap (λ (v : Item). v.0) z)) where
    go : (t : Bool) → t ≡ true → Memᴰ e (kind (elim t [ true ↦ y.1 plus given_to x.0 l | false ↦ given_to x.0 l ]))
    go true w = subst (Memᴰ e) (sym (column.both y.1 (given_to x.0 l)))
        (Memᴰ.append_left (kind (given_to x.0 l)) (subst (λ (v : Item). Memᴰ e (kind v.1)) z q))
    go false w = let u : ◌≡◌ {A = ℕ} 0 1 = ap (λ (t : Bool). elim t [ true ↦ 1 | false ↦ 0 ]) w in absurd (omega arith)
  source_given x e L (Memᴰ.tail {x = y} {xs = l} m) q = go (eqb x.0 y.0) (source_given x e l m q) where
    go : (t : Bool) → Memᴰ e (kind (given_to x.0 l)) →
        Memᴰ e (kind (elim t [ true ↦ y.1 plus given_to x.0 l | false ↦ given_to x.0 l ]))
    go true r = subst (Memᴰ e) (sym (column.both y.1 (given_to x.0 l))) (Memᴰ.append_right (kind y.1) r)
    go false r = r

  -- a row is given to its home
  pub row_given : (L : List Item) (p : ℕ × X) → Memᴰ p (rows L) → Memᴰ p.1 (kind (given_to p.0 L))
  row_given L p m =
      let r = row_sourced L p m in
      subst (λ (j : ℕ). Memᴰ p.1 (kind (given_to j L))) (sym r.2) (source_given r.0 p.1 L r.1 r.3)

  -- and what is given is a row
  pub given_row : (L : List Item) (j : ℕ) (e : X) → Memᴰ e (kind (given_to j L)) → Memᴰ (j, e) (rows L)
  given_row L j e m =
      let r = given_sourced L j e m in
      subst (λ (h : ℕ). Memᴰ (h, e) (rows L)) (sym r.2) (source_row r.0 e L r.1 r.3)

-- ---- homes and spots are low
-- an item's home is low, and the first spot of each of its pairs
pub record Fine (homes spots : ℕ) (x : Item) : Type 0 where
  pub home : x.0 < homes
  pub bearers : (p : ℕ × ℕ) → Memᴰ p x.1.atoms → p.0 < spots
  pub sharers : (p : ℕ × ℕ) → Memᴰ p x.1.ties → p.0 < spots

-- so is that of each item
abbrev pub AllFine : ℕ → ℕ → List Item → Type 0
AllFine homes spots L = (x : Item) → Memᴰ x L → Fine homes spots x

-- no item
none_fine : (c u : ℕ) → AllFine c u []
none_fine c u x m = absurd (Memᴰ.not-nil m)

-- one more
more_fine : (c u : ℕ) (y : Item) (L : List Item) → Fine c u y → AllFine c u L → AllFine c u (y ∷ L)
more_fine c u y L f g x m = ⊎_elim (λ (e : x ≡ y). subst (Fine c u) (sym e) f) (g x) (Memᴰ.cases_cons m)

-- two lists
both_fine : (c u : ℕ) (L M : List Item) → AllFine c u L → AllFine c u M → AllFine c u (L ++ M)
both_fine c u L M f g x m = ⊎_elim (f x) (g x) (Memᴰ.append_cases L m)

-- an item of atoms of one spot
atoms_fine : (c u h s : ℕ) (l : List ℕ) (A : Sheet) → h < c → s < u → A.atoms ≡ in_home s l → A.ties ≡ [] → Fine c u (h, A)
atoms_fine c u h s l A b d e f = record {
  home = b;
  bearers = λ p m. let z = (in_home_of s l p (subst (Memᴰ p) e m)).0 in omega (arith, z, d);
  sharers = λ p m. absurd (Memᴰ.not-nil (subst (Memᴰ p) f m));
}

-- shared paths tie the end of the first
tied_from : (n s e : ℕ) (ps : List Path) (p : ℕ × ℕ) → Memᴰ p (tied n s e ps).ties → p.0 ≡ e
tied_from n s e [] p m = absurd (Memᴰ.not-nil m)
tied_from n s e (q ∷ ps) p m = ⊎_elim (λ (z : p ≡ (e, way_end n s q)). ap (λ (v : ℕ × ℕ). v.0) z) (tied_from (n + length q) s e ps p)
    (Memᴰ.cases_cons m)

-- and have no atoms
tied_bare : (n s e : ℕ) (ps : List Path) → (tied n s e ps).atoms ≡ []
tied_bare n s e [] = refl
tied_bare n s e (q ∷ ps) = tied_bare (n + length q) s e ps

-- an item of shared paths
same_fine : (c u n s h : ℕ) (p : Path) (ps : List Path) → h < c → s < n → n + length p ≤ u →
    Fine c u (h, of_edges (way n s p) plus tied (n + length p) s (way_end n s p) ps)
same_fine c u n s h p ps b l r =
    let end = way_end_low n s p l in
    record {
      home = b;
      bearers = λ x m. absurd (Memᴰ.not-nil (subst (Memᴰ x) (tied_bare (n + length p) s (way_end n s p) ps) m));
      sharers = λ x m. let z = tied_from (n + length p) s (way_end n s p) ps x m in omega (arith, z, end, r);
    }

-- all items of a formula
mutual
  flat_fine : (c u n k s h : ℕ) (φ : Formula) → h < c → k + width φ ≤ c → s < n → n + count φ ≤ u → AllFine c u (flat_items n k s h φ)
  flat_fine c u n k s h nil b w l r = none_fine c u
  flat_fine c u n k s h top b w l r = more_fine c u (h, of_atom s 0 plus of_atom s 1) []
      (atoms_fine c u h s (0 ∷ 1 ∷ []) (of_atom s 0 plus of_atom s 1) b (omega arith) refl refl) (none_fine c u)
  flat_fine c u n k s h (atom a) b w l r = more_fine c u (h, of_atom s a) []
      (atoms_fine c u h s (a ∷ []) (of_atom s a) b (omega arith) refl refl) (none_fine c u)
  flat_fine c u n k s h (at f φ) b w l r = more_fine c u (h, of_edges ((s, f, n) ∷ [])) (flat_items (suc n) k n h φ)
      (atoms_fine c u h s [] (of_edges ((s, f, n) ∷ [])) b (omega arith) refl refl)
      (flat_fine c u (suc n) k n h φ b w (omega arith) (omega arith))
  flat_fine c u n k s h (same p ps) b w l r =
      more_fine c u (h, of_edges (way n s p) plus tied (n + length p) s (way_end n s p) ps) []
      (same_fine c u n s h p ps b l (omega arith)) (none_fine c u)
  flat_fine c u n k s h (all φ φs) b w l r = both_fine c u (flat_items n k s h φ) (flat_all (n + count φ) (k + width φ) s h φs)
      (flat_fine c u n k s h φ b (omega arith) l (omega arith))
      (all_fine c u (n + count φ) (k + width φ) s h φs b (omega arith) (omega arith) (omega arith))
  flat_fine c u n k s h (any φ φs) b w l r = both_fine c u (flat_items n (suc k) s k φ) (flat_any (n + count φ) (suc k + width φ) s φs)
      (flat_fine c u n (suc k) s k φ (omega arith) (omega arith) l (omega arith))
      (any_fine c u (n + count φ) (suc k + width φ) s φs (omega arith) (omega arith) (omega arith))

  all_fine : (c u n k s h : ℕ) (φs : Formulas) → h < c → k + widths φs ≤ c → s < n → n + counts φs ≤ u → AllFine c u (flat_all n k s h φs)
  all_fine c u n k s h (one φ) b w l r = flat_fine c u n k s h φ b w l r
  all_fine c u n k s h (φ also φs) b w l r = both_fine c u (flat_items n k s h φ) (flat_all (n + count φ) (k + width φ) s h φs)
      (flat_fine c u n k s h φ b (omega arith) l (omega arith))
      (all_fine c u (n + count φ) (k + width φ) s h φs b (omega arith) (omega arith) (omega arith))

  any_fine : (c u n k s : ℕ) (φs : Formulas) → k + ranks φs ≤ c → s < n → n + counts φs ≤ u → AllFine c u (flat_any n k s φs)
  any_fine c u n k s (one φ) w l r = flat_fine c u n (suc k) s k φ (omega arith) (omega arith) l r
  any_fine c u n k s (φ also φs) w l r = both_fine c u (flat_items n (suc k) s k φ) (flat_any (n + count φ) (suc k + width φ) s φs)
      (flat_fine c u n (suc k) s k φ (omega arith) (omega arith) l (omega arith))
      (any_fine c u (n + count φ) (suc k + width φ) s φs (omega arith) (omega arith) (omega arith))

-- homes are alternatives of the formula, spots are at most their count
pub flattened_fine : (φ : Formula) → AllFine (suc (width φ)) (suc (count φ)) (flattened φ)
flattened_fine φ = flat_fine (suc (width φ)) (suc (count φ)) 1 1 0 0 φ (omega arith) (omega arith) (omega arith) (omega arith)
