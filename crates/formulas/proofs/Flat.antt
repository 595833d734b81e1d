-- In the list of all signs, what is given to an alternative is its sheet.
-- Assumes nothing.
use mathlib.Core.Path.{◌≡◌, refl, ap, ap₂, sym, ◌∙◌, subst}
use mathlib.Core.Logic.{◌⊎◌, inl, inr, ⊎_elim, ◌≢◌}
use mathlib.Core.Bool.{Bool, true, false}
use mathlib.Core.List.Memᴰ
use mathlib.Core.List.{List, [], ◌∷◌, ◌++◌, append-nil, Memᴰ}
use Prim.Native.Nat.{ℕ, suc, ◌+◌, ◌<◌, ◌≤◌}
use native.Mathlib.Omega.{arith}
use lib.ListN.{length}
use lib.Dec.{eqb}
use Rattle.theory.specs.Join.{Edge}
use Rattle.descriptions.proofs.Tests.{eqb_yes, eqb_no}
use Rattle.formulas.specs.Formula.{Formula, nil, top, atom, at, same, all, any, Formulas, one, ◌also◌}
use Rattle.formulas.specs.Sheet.{Sheet, blank_sheet, ◌plus◌, of_edges, of_atom, count, way, way_end, tied, sheet, sheets, laid, Rows}
use Rattle.formulas.specs.Sheet.{over, ◌besides◌, ◌next◌, lay, lay_all, cells, laid_out}
use Rattle.formulas.specs.Flat.{width, widths, ranks, Item, flat_items, flat_all, flat_any, flattened, given_to, wide_rows}
use Rattle.formulas.specs.Flat.{wide_cells, Named, NamedRows, NamedCells}
use Rattle.formulas.proofs.Told.{plus_assoc}

plus_blank : (A : Sheet) → A plus blank_sheet ≡ A
plus_blank A = λ i. record { edges = append-nil A.edges i; atoms = append-nil A.atoms i; ties = append-nil A.ties i }

picked_append : (j : ℕ) (l m : List Item) → given_to j (l ++ m) ≡ given_to j l plus given_to j m
picked_append j [] m = refl
picked_append j (x ∷ l) m = go (eqb j x.0) (picked_append j l m)
  where
    go : (t : Bool) → given_to j (l ++ m) ≡ given_to j l plus given_to j m →
        elim t [ true ↦ x.1 plus given_to j (l ++ m) | false ↦ given_to j (l ++ m) ] ≡ elim t
        [ true ↦ x.1 plus given_to j l | false ↦ given_to j l ] plus given_to j m
    go true e = ap {B = Sheet} (λ (z : Sheet). x.1 plus z) e ∙ sym (plus_assoc x.1 (given_to j l) (given_to j m))
    go false e = e

picked_here : (h : ℕ) (A : Sheet) (l : List Item) → given_to h ((h, A) ∷ l) ≡ A plus given_to h l
picked_here h A l = ap {B = Sheet} (λ (t : Bool). elim t [ true ↦ A plus given_to h l | false ↦ given_to h l ]) (eqb_yes h h refl)

picked_past : (j h : ℕ) (A : Sheet) (l : List Item) → j ≢ h → given_to j ((h, A) ∷ l) ≡ given_to j l
picked_past j h A l n = ap {B = Sheet} (λ (t : Bool). elim t [ true ↦ A plus given_to j l | false ↦ given_to j l ]) (eqb_no j h n)

both_blank : (j : ℕ) (l m : List Item) → given_to j l ≡ blank_sheet → given_to j m ≡ blank_sheet → given_to j (l ++ m) ≡ blank_sheet
both_blank j l m p q = picked_append j l m ∙ ap₂ {C = Sheet} ◌plus◌ p q

-- j is none of the numbers from k on, w of them
abbrev Outside : ℕ → ℕ → ℕ → Type 0
Outside j k w = (j < k) ⊎ (k + w ≤ j)

first_part : (j k a b : ℕ) → Outside j k (a + b) → Outside j k a
first_part j k a b (inl h) = inl h
first_part j k a b (inr h) = inr (omega arith)

second_part : (j k a b : ℕ) → Outside j k (a + b) → Outside j (k + a) b
second_part j k a b (inl h) = inl (omega arith)
second_part j k a b (inr h) = inr (omega arith)

not_head : (j k w : ℕ) → Outside j k (suc w) → j ≢ k
not_head j k w (inl h) e = omega arith
not_head j k w (inr h) e = omega arith

after_head : (j k w : ℕ) → Outside j k (suc w) → Outside j (suc k) w
after_head j k w (inl h) = inl (omega arith)
after_head j k w (inr h) = inr (omega arith)

rest_part : (j k a b : ℕ) → Outside j k (suc a + b) → Outside j (suc k + a) b
rest_part j k a b (inl h) = inl (omega arith)
rest_part j k a b (inr h) = inr (omega arith)

head_part : (j k a b : ℕ) → Outside j k (suc a + b) → Outside j k (suc a)
head_part j k a b (inl h) = inl h
head_part j k a b (inr h) = inr (omega arith)

mutual
  flat_none : (j n k s h : ℕ) (φ : Formula) → j ≢ h → Outside j k (width φ) → given_to j (flat_items n k s h φ) ≡ blank_sheet
  flat_none j n k s h nil d o = refl
  flat_none j n k s h top d o = picked_past j h (of_atom s 0 plus of_atom s 1) [] d
  flat_none j n k s h (atom a) d o = picked_past j h (of_atom s a) [] d
  flat_none j n k s h (at f φ) d o = picked_past j h (of_edges ((s, f, n) ∷ [])) (flat_items (suc n) k n h φ) d
      ∙ flat_none j (suc n) k n h φ d o
  flat_none j n k s h (same p ps) d o = picked_past j h (of_edges (way n s p) plus tied (n + length p) s (way_end n s p) ps) [] d
  flat_none j n k s h (all φ φs) d o =
      both_blank j (flat_items n k s h φ) (flat_all (n + count φ) (k + width φ) s h φs)
      (flat_none j n k s h φ d (first_part j k (width φ) (widths φs) o))
      (flat_all_none j (n + count φ) (k + width φ) s h φs d (second_part j k (width φ) (widths φs) o))
  flat_none j n k s h (any φ φs) d o = both_blank j (flat_items n (suc k) s k φ) (flat_any (n + count φ) (suc k + width φ) s φs)
      (let u = head_part j k (width φ) (ranks φs) o in flat_none j n (suc k) s k φ (not_head j k (width φ) u) (after_head j k (width φ) u))
      (flat_any_none j (n + count φ) (suc k + width φ) s φs (rest_part j k (width φ) (ranks φs) o))

  flat_all_none : (j n k s h : ℕ) (φs : Formulas) → j ≢ h → Outside j k (widths φs) → given_to j (flat_all n k s h φs) ≡ blank_sheet
  flat_all_none j n k s h (one φ) d o = flat_none j n k s h φ d o
  flat_all_none j n k s h (φ also φs) d o =
      both_blank j (flat_items n k s h φ) (flat_all (n + count φ) (k + width φ) s h φs)
      (flat_none j n k s h φ d (first_part j k (width φ) (widths φs) o))
      (flat_all_none j (n + count φ) (k + width φ) s h φs d (second_part j k (width φ) (widths φs) o))

  flat_any_none : (j n k s : ℕ) (φs : Formulas) → Outside j k (ranks φs) → given_to j (flat_any n k s φs) ≡ blank_sheet
  flat_any_none j n k s (one φ) o = flat_none j n (suc k) s k φ (not_head j k (width φ) o) (after_head j k (width φ) o)
  flat_any_none j n k s (φ also φs) o = both_blank j (flat_items n (suc k) s k φ) (flat_any (n + count φ) (suc k + width φ) s φs)
      (let u = head_part j k (width φ) (ranks φs) o in flat_none j n (suc k) s k φ (not_head j k (width φ) u) (after_head j k (width φ) u))
      (flat_any_none j (n + count φ) (suc k + width φ) s φs (rest_part j k (width φ) (ranks φs) o))

both_are : (j : ℕ) (l m : List Item) (A B : Sheet) → given_to j l ≡ A → given_to j m ≡ B → given_to j (l ++ m) ≡ A plus B
both_are j l m A B p q = picked_append j l m ∙ ap₂ {C = Sheet} ◌plus◌ p q

mutual
  pub flat_own : (n k s h : ℕ) (φ : Formula) → h < k → given_to h (flat_items n k s h φ) ≡ sheet n s φ
  flat_own n k s h nil l = refl
  flat_own n k s h top l = picked_here h (of_atom s 0 plus of_atom s 1) [] ∙ plus_blank (of_atom s 0 plus of_atom s 1)
  flat_own n k s h (atom a) l = picked_here h (of_atom s a) [] ∙ plus_blank (of_atom s a)
  flat_own n k s h (at f φ) l =
      picked_here h (of_edges ((s, f, n) ∷ [])) (flat_items (suc n) k n h φ)
      ∙ ap {B = Sheet} (λ (z : Sheet). of_edges ((s, f, n) ∷ []) plus z) (flat_own (suc n) k n h φ l)
  flat_own n k s h (same p ps) l = let A : Sheet = of_edges (way n s p) plus tied (n + length p) s (way_end n s p) ps in
      picked_here h A [] ∙ plus_blank A
  flat_own n k s h (all φ φs) l =
      both_are h (flat_items n k s h φ) (flat_all (n + count φ) (k + width φ) s h φs) (sheet n s φ) (sheets (n + count φ) s φs)
      (flat_own n k s h φ l) (flat_all_own (n + count φ) (k + width φ) s h φs (omega arith))
  flat_own n k s h (any φ φs) l = flat_none h n k s (suc h) (any φ φs) (λ e. omega arith) (inl l)

  flat_all_own : (n k s h : ℕ) (φs : Formulas) → h < k → given_to h (flat_all n k s h φs) ≡ sheets n s φs
  flat_all_own n k s h (one φ) l = flat_own n k s h φ l
  flat_all_own n k s h (φ also φs) l =
      both_are h (flat_items n k s h φ) (flat_all (n + count φ) (k + width φ) s h φs) (sheet n s φ) (sheets (n + count φ) s φs)
      (flat_own n k s h φ l) (flat_all_own (n + count φ) (k + width φ) s h φs (omega arith))

-- the numbers that a formula takes
pub rows_next : (ds es : Rows) → wide_rows (ds next es) ≡ wide_rows ds + wide_rows es
rows_next over es = omega arith
rows_next (a besides ds) es = let e = rows_next ds es in omega (arith, e)

mutual
  pub lay_wide : (n s : ℕ) (es : List Edge) (φ : Formula) → wide_rows (lay n s es φ) ≡ width φ
  lay_wide n s es nil = refl
  lay_wide n s es top = refl
  lay_wide n s es (atom a) = refl
  lay_wide n s es (at f φ) = lay_wide (suc n) n (es ++ (s, f, n) ∷ []) φ
  lay_wide n s es (same p ps) = refl
  lay_wide n s es (all φ φs) =
      rows_next (lay n s es φ) (lay_all (n + count φ) s es φs) ∙ ap₂ {C = ℕ} ◌+◌ (lay_wide n s es φ) (lay_all_wide (n + count φ) s es φs)
  lay_wide n s es (any φ φs) = let e = lay_wide n s es φ in let f = cells_wide (n + count φ) s es φs in omega (arith, e, f)

  lay_all_wide : (n s : ℕ) (es : List Edge) (φs : Formulas) → wide_rows (lay_all n s es φs) ≡ widths φs
  lay_all_wide n s es (one φ) = lay_wide n s es φ
  lay_all_wide n s es (φ also φs) =
      rows_next (lay n s es φ) (lay_all (n + count φ) s es φs) ∙ ap₂ {C = ℕ} ◌+◌ (lay_wide n s es φ) (lay_all_wide (n + count φ) s es φs)

  cells_wide : (n s : ℕ) (es : List Edge) (φs : Formulas) → wide_cells (cells n s es φs) ≡ ranks φs
  cells_wide n s es (one φ) = let e = lay_wide n s es φ in omega (arith, e)
  cells_wide n s es (φ also φs) = let e = lay_wide n s es φ in let f = cells_wide (n + count φ) s es φs in omega (arith, e, f)

module _ (L : List Item) where
  named_next : (k : ℕ) (O : Sheet) (ds es : Rows) → NamedRows L k O ds → NamedRows L (k + wide_rows ds) O es → NamedRows L k O (ds next es)
  named_next k O over es p q = let e : k + 0 ≡ k = omega arith in subst (λ (z : ℕ). NamedRows L z O es) e q
  named_next k O (a besides ds) es p q = let e : k + (wide_cells a + wide_rows ds) ≡ k + wide_cells a + wide_rows ds = omega arith in
      (p.0, named_next (k + wide_cells a) O ds es p.1 (subst (λ (z : ℕ). NamedRows L z O es) e q))

  -- of the numbers from k on, w of them, all that is given stands in the list M
  abbrev pub Holds : ℕ → ℕ → List Item → Type 0
  Holds k w M = (j : ℕ) → k ≤ j → j < k + w → given_to j L ≡ given_to j M

  holds_left : (k a b : ℕ) (M N : List Item) → Holds k (a + b) (M ++ N) → ((j : ℕ) → k ≤ j → j < k + a → given_to j N ≡ blank_sheet) →
      Holds k a M
  holds_left k a b M N h z j l u =
      h j l (omega arith) ∙ picked_append j M N ∙ ap {B = Sheet} (λ (x : Sheet). given_to j M plus x) (z j l u) ∙ plus_blank (given_to j M)

  holds_right : (k a b : ℕ) (M N : List Item) → Holds k (a + b) (M ++ N) →
      ((j : ℕ) → k + a ≤ j → j < k + a + b → given_to j M ≡ blank_sheet) → Holds (k + a) b N
  holds_right k a b M N h z j l u =
      h j (omega arith) (omega arith) ∙ picked_append j M N ∙ ap {B = Sheet} (λ (x : Sheet). x plus given_to j N) (z j l u)

  abbrev pub Side : ℕ → ℕ → ℕ → Formula → Type 0
  Side n k s φ = Holds k (suc (width φ)) (flat_items n (suc k) s k φ)

  -- inside an alternative, its own number aside
  pub side_in : (n k s : ℕ) (φ : Formula) → Side n k s φ → Holds (suc k) (width φ) (flat_items n (suc k) s k φ)
  side_in n k s φ h j l u = h j (omega arith) (omega arith)

  pub side_own : (n k s : ℕ) (es : List Edge) (φ : Formula) → Side n k s φ → of_edges es plus sheet n s φ ≡ of_edges es plus given_to k L
  side_own n k s es φ h =
      ap {B = Sheet} (λ (x : Sheet). of_edges es plus x) (sym (h k (omega arith) (omega arith) ∙ flat_own n (suc k) s k φ (omega arith)))

  pub first_side : (n k s : ℕ) (φ : Formula) (φs : Formulas) →
      Holds k (suc (width φ) + ranks φs) (flat_items n (suc k) s k φ ++ flat_any (n + count φ) (suc k + width φ) s φs) → Side n k s φ
  first_side n k s φ φs h =
      holds_left k (suc (width φ)) (ranks φs) (flat_items n (suc k) s k φ) (flat_any (n + count φ) (suc k + width φ) s φs) h
      (λ j l u. flat_any_none j (n + count φ) (suc k + width φ) s φs (inl (omega arith)))

  pub other_sides : (n k s : ℕ) (φ : Formula) (φs : Formulas) →
      Holds k (suc (width φ) + ranks φs) (flat_items n (suc k) s k φ ++ flat_any (n + count φ) (suc k + width φ) s φs) →
      Holds (suc k + width φ) (ranks φs) (flat_any (n + count φ) (suc k + width φ) s φs)
  other_sides n k s φ φs h =
      let e : k + suc (width φ) ≡ suc k + width φ = omega arith in
      subst (λ (z : ℕ). Holds z (ranks φs) (flat_any (n + count φ) (suc k + width φ) s φs)) e
      (holds_right k (suc (width φ)) (ranks φs) (flat_items n (suc k) s k φ) (flat_any (n + count φ) (suc k + width φ) s φs) h
      (λ j l u. flat_none j n (suc k) s k φ (λ d. omega arith) (inr (omega arith))))

  pub first_part_of : (n k s h : ℕ) (φ : Formula) (φs : Formulas) → h < k →
      Holds k (width φ + widths φs) (flat_items n k s h φ ++ flat_all (n + count φ) (k + width φ) s h φs) →
      Holds k (width φ) (flat_items n k s h φ)
  first_part_of n k s h φ φs b p =
      holds_left k (width φ) (widths φs) (flat_items n k s h φ) (flat_all (n + count φ) (k + width φ) s h φs) p
      (λ j l u. flat_all_none j (n + count φ) (k + width φ) s h φs (λ d. omega arith) (inl u))

  pub other_parts_of : (n k s h : ℕ) (φ : Formula) (φs : Formulas) → h < k →
      Holds k (width φ + widths φs) (flat_items n k s h φ ++ flat_all (n + count φ) (k + width φ) s h φs) →
      Holds (k + width φ) (widths φs) (flat_all (n + count φ) (k + width φ) s h φs)
  other_parts_of n k s h φ φs b p =
      holds_right k (width φ) (widths φs) (flat_items n k s h φ) (flat_all (n + count φ) (k + width φ) s h φs) p
      (λ j l u. flat_none j n k s h φ (λ d. omega arith) (inr l))

  pub past : (k : ℕ) (M : List Item) (x : Item) (w : ℕ) → x.0 < k → Holds k w (x ∷ M) → Holds k w M
  past k M x w b p j l u = p j l u ∙ picked_past j x.0 x.1 M (λ d. omega arith)

  -- arcs that O has
  abbrev Has : Sheet → List Edge → Type 0
  Has O es = (e : Edge) → Memᴰ e es → Memᴰ e O.edges

  has_both : (O : Sheet) (es ds : List Edge) → Has O es → Has O ds → Has O (es ++ ds)
  has_both O es ds p q e m = ⊎_elim (p e) (q e) (Memᴰ.append_cases es m)

  has_left : (O : Sheet) (es ds : List Edge) → Has O (es ++ ds) → Has O es
  has_left O es ds p e m = p e (Memᴰ.append_left ds m)

  has_right : (O : Sheet) (es ds : List Edge) → Has O (es ++ ds) → Has O ds
  has_right O es ds p e m = p e (Memᴰ.append_right es m)

  has_before : (es : List Edge) (A : Sheet) → Has (of_edges es plus A) es
  has_before es A e m = Memᴰ.append_left A.edges m

  has_after : (es : List Edge) (A : Sheet) → Has (of_edges es plus A) A.edges
  has_after es A e m = Memᴰ.append_right es m

  side_named : (n k s : ℕ) (es : List Edge) (φ : Formula) → Side n k s φ →
      NamedRows L (suc k) (of_edges es plus sheet n s φ) (lay n s es φ) → Named L k es (laid (of_edges es plus sheet n s φ) (lay n s es φ))
  side_named n k s es φ p r = (side_own n k s es φ p, r)

  mutual
    lay_named : (n k s h : ℕ) (es : List Edge) (O : Sheet) (φ : Formula) → h < k → Holds k (width φ) (flat_items n k s h φ) → Has O es →
        Has O (sheet n s φ).edges → NamedRows L k O (lay n s es φ)
    lay_named n k s h es O nil b p t u = tt
    lay_named n k s h es O top b p t u = tt
    lay_named n k s h es O (atom a) b p t u = tt
    lay_named n k s h es O (at f φ) b p t u =
        lay_named (suc n) k n h (es ++ (s, f, n) ∷ []) O φ b
        (past k (flat_items (suc n) k n h φ) (h, of_edges ((s, f, n) ∷ [])) (width φ) b p)
        (has_both O es ((s, f, n) ∷ []) t (has_left O ((s, f, n) ∷ []) (sheet (suc n) n φ).edges u))
        (has_right O ((s, f, n) ∷ []) (sheet (suc n) n φ).edges u)
    lay_named n k s h es O (same q qs) b p t u = tt
    lay_named n k s h es O (all φ φs) b p t u =
        named_next k O (lay n s es φ) (lay_all (n + count φ) s es φs)
        (lay_named n k s h es O φ b (first_part_of n k s h φ φs b p) t
        (has_left O (sheet n s φ).edges (sheets (n + count φ) s φs).edges u))
        (subst (λ (z : ℕ). NamedRows L (k + z) O (lay_all (n + count φ) s es φs)) (sym (lay_wide n s es φ))
        (lay_all_named (n + count φ) (k + width φ) s h es O φs (omega arith) (other_parts_of n k s h φ φs b p) t
        (has_right O (sheet n s φ).edges (sheets (n + count φ) s φs).edges u)))
    lay_named n k s h es O (any φ φs) b p t u = (
      (
        (
          es,
          t,
          side_named n k s es φ (first_side n k s φ φs p)
              (lay_named n (suc k) s k es (of_edges es plus sheet n s φ) φ (omega arith) (side_in n k s φ (first_side n k s φ φs p))
              (has_before es (sheet n s φ)) (has_after es (sheet n s φ))),
        ),
        subst (λ (z : ℕ). NamedCells L (suc k + z) O (cells (n + count φ) s es φs)) (sym (lay_wide n s es φ))
            (cells_named (n + count φ) (suc k + width φ) s es O φs (other_sides n k s φ φs p) t),
      ),
      tt,
    )

    lay_all_named : (n k s h : ℕ) (es : List Edge) (O : Sheet) (φs : Formulas) → h < k → Holds k (widths φs) (flat_all n k s h φs) →
        Has O es → Has O (sheets n s φs).edges → NamedRows L k O (lay_all n s es φs)
    lay_all_named n k s h es O (one φ) b p t u = lay_named n k s h es O φ b p t u
    lay_all_named n k s h es O (φ also φs) b p t u =
        named_next k O (lay n s es φ) (lay_all (n + count φ) s es φs)
        (lay_named n k s h es O φ b (first_part_of n k s h φ φs b p) t
        (has_left O (sheet n s φ).edges (sheets (n + count φ) s φs).edges u))
        (subst (λ (z : ℕ). NamedRows L (k + z) O (lay_all (n + count φ) s es φs)) (sym (lay_wide n s es φ))
        (lay_all_named (n + count φ) (k + width φ) s h es O φs (omega arith) (other_parts_of n k s h φ φs b p) t
        (has_right O (sheet n s φ).edges (sheets (n + count φ) s φs).edges u)))

    cells_named : (n k s : ℕ) (es : List Edge) (O : Sheet) (φs : Formulas) → Holds k (ranks φs) (flat_any n k s φs) → Has O es →
        NamedCells L k O (cells n s es φs)
    cells_named n k s es O (one φ) p t = (
      (
        es,
        t,
        side_named n k s es φ p
            (lay_named n (suc k) s k es (of_edges es plus sheet n s φ) φ (omega arith) (side_in n k s φ p) (has_before es (sheet n s φ))
            (has_after es (sheet n s φ))),
      ),
      tt,
    )
    cells_named n k s es O (φ also φs) p t = (
      (
        es,
        t,
        side_named n k s es φ (first_side n k s φ φs p)
            (lay_named n (suc k) s k es (of_edges es plus sheet n s φ) φ (omega arith) (side_in n k s φ (first_side n k s φ φs p))
            (has_before es (sheet n s φ)) (has_after es (sheet n s φ))),
      ),
      subst (λ (z : ℕ). NamedCells L (suc k + z) O (cells (n + count φ) s es φs)) (sym (lay_wide n s es φ))
          (cells_named (n + count φ) (suc k + width φ) s es O φs (other_sides n k s φ φs p) t),
    )

-- every alternative, by its number
pub laid_named : (φ : Formula) → Named (flattened φ) 0 [] (laid_out φ)
laid_named φ = (
  sym (flat_own 1 1 0 0 φ (omega arith)),
  lay_named (flattened φ) 1 1 0 0 [] (sheet 1 0 φ) φ (omega arith) (λ j l u. refl) (λ e m. absurd (Memᴰ.not-nil m)) (λ e m. m),
)
