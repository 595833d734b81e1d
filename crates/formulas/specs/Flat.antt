-- A formula as one list in the order of the text: what each sign gives, and the number of the alternative that it stands in. Alternatives
-- are numbered from 1 in the order in which they begin, so that inner ones have greater numbers; 0 is the whole.
-- Assumes nothing: these are definitions.
use Rattle.std.specs.Prelude.{◌≡◌, true, false, ℕ, suc, ◌+◌, length, eqb}
use mathlib.Core.List.{List, [], ◌∷◌, ◌++◌, Memᴰ}
use Rattle.theory.specs.Join.{Edge}
use Rattle.formulas.specs.Formula.{Formula, nil, top, atom, at, same, all, any, Formulas, one, ◌also◌}
use Rattle.formulas.specs.Sheet.{Sheet, blank_sheet, ◌plus◌, of_edges, of_atom, count, way, way_end, tied, Laid, laid, Rows, over}
use Rattle.formulas.specs.Sheet.{◌besides◌, Cells, gone, ◌against◌}

-- the number of alternatives in a formula
abbrev mutual
  pub width : Formula → ℕ
  width nil = 0
  width top = 0
  width (atom a) = 0
  width (at f φ) = width φ
  width (same p ps) = 0
  width (all φ φs) = width φ + widths φs
  width (any φ φs) = suc (width φ) + ranks φs

  pub widths : Formulas → ℕ
  widths (one φ) = width φ
  widths (φ also φs) = width φ + widths φs

  -- those of alternatives, themselves among them
  pub ranks : Formulas → ℕ
  ranks (one φ) = suc (width φ)
  ranks (φ also φs) = suc (width φ) + ranks φs

-- the number of an alternative, and what a sign gives to it
abbrev pub Item : Type 0
Item = ℕ × Sheet

-- φ at the spot s in the alternative h; its spots have numbers from n on, its alternatives from k on
abbrev mutual
  pub flat_items : ℕ → ℕ → ℕ → ℕ → Formula → List Item
  flat_items n k s h nil = []
  flat_items n k s h top = (h, of_atom s 0 plus of_atom s 1) ∷ []
  flat_items n k s h (atom a) = (h, of_atom s a) ∷ []
  flat_items n k s h (at f φ) = (h, of_edges ((s, f, n) ∷ [])) ∷ flat_items (suc n) k n h φ
  flat_items n k s h (same p ps) = (h, of_edges (way n s p) plus tied (n + length p) s (way_end n s p) ps) ∷ []
  flat_items n k s h (all φ φs) = flat_items n k s h φ ++ flat_all (n + count φ) (k + width φ) s h φs
  flat_items n k s h (any φ φs) = flat_items n (suc k) s k φ ++ flat_any (n + count φ) (suc k + width φ) s φs

  pub flat_all : ℕ → ℕ → ℕ → ℕ → Formulas → List Item
  flat_all n k s h (one φ) = flat_items n k s h φ
  flat_all n k s h (φ also φs) = flat_items n k s h φ ++ flat_all (n + count φ) (k + width φ) s h φs

  pub flat_any : ℕ → ℕ → ℕ → Formulas → List Item
  flat_any n k s (one φ) = flat_items n (suc k) s k φ
  flat_any n k s (φ also φs) = flat_items n (suc k) s k φ ++ flat_any (n + count φ) (suc k + width φ) s φs

abbrev pub flattened : Formula → List Item
flattened φ = flat_items 1 1 0 0 φ

-- what is given to alternative j
abbrev pub given_to : ℕ → List Item → Sheet
given_to j [] = blank_sheet
given_to j (x ∷ l) = elim (eqb j x.0) [ true ↦ x.1 plus given_to j l | false ↦ given_to j l ]

-- the numbers of alternatives in a draft by spots
abbrev mutual
  pub wide : Laid → ℕ
  wide (laid A ds) = wide_rows ds

  pub wide_rows : Rows → ℕ
  wide_rows over = 0
  wide_rows (a besides ds) = wide_cells a + wide_rows ds

  pub wide_cells : Cells → ℕ
  wide_cells gone = 0
  wide_cells (d against a) = suc (wide d) + wide_cells a

-- alternative k is what is given to it, after the arcs es that stand before it, which the description O in which it stands has too; numbers
-- go on from there
abbrev mutual
  pub Named : List Item → ℕ → List Edge → Laid → Type 0
  Named L k es (laid A ds) = (A ≡ of_edges es plus given_to k L) × NamedRows L (suc k) A ds

  pub NamedRows : List Item → ℕ → Sheet → Rows → Type 0
  NamedRows L k O over = Unit {0}
  NamedRows L k O (a besides ds) = NamedCells L k O a × NamedRows L (k + wide_cells a) O ds

  pub NamedCells : List Item → ℕ → Sheet → Cells → Type 0
  NamedCells L k O gone = Unit {0}
  NamedCells L k O (d against a) =
      ((es : List Edge) × ((e : Edge) → Memᴰ e es → Memᴰ e O.edges) × Named L k es d)
      × NamedCells L (suc k + wide d) O a
