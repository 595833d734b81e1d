-- A formula that is laid out lies in the tables in words, with the arcs that lead to each alternative; and how deep it is nested.
-- Assumes nothing.
use Prim.Native.Nat.{ℕ, zero, suc, ◌+◌, ◌-◌, ◌*◌, ◌/◌, ◌%◌, ◌<◌, ◌≤◌}
use mathlib.Core.Path.{◌≡◌, refl, sym, ap, subst, ◌∙◌}
use mathlib.Core.Logic.{⊎_elim}
use mathlib.Core.List.Memᴰ
use mathlib.Core.List.{List, [], ◌∷◌, ◌++◌, Memᴰ}
use mathlib.Core.List.{append_cancel_right}
use native.Mathlib.Omega.{arith}
use lib.ListN.{length}
use Rattle.theory.specs.Join.{Edge}
use Rattle.formulas.specs.Formula.{Formula, nil, top, atom, at, same, all, any, Formulas, one, ◌also◌, depth, depths}
use Rattle.formulas.specs.Sheet.{Sheet, blank_sheet, ◌plus◌, of_edges, count, Laid, laid, Rows, over, ◌besides◌, Cells, gone}
use Rattle.formulas.specs.Sheet.{◌against◌, ◌next◌, lay, lay_all, cells, laid_out}
use Rattle.formulas.specs.Flat.{Item, flattened, given_to, wide, wide_cells, Named, NamedRows, NamedCells}
use Rattle.formulas.specs.Tables.{Tables, tables, edge, Trail, at_root, further, Lies, LiesRows, LiesCells, NestsLaid, NestsRows}
use Rattle.formulas.specs.Tables.{NestsCells}
use Rattle.formulas.proofs.Flat.{laid_named}
use Rattle.rows.specs.Machine.{rows_of}
use Rattle.rows.specs.Plan.{Plan, trail_in, plan_trail, PlanLies, PlanLiesRows, PlanLiesCells}
use Rattle.rows.specs.Memory.{Memory, TablesHold}
use Rattle.rows.specs.Laid.{spot_unit, memory_plan, LaidIn}
use Rattle.rows.proofs.Columns.{arc_column}
use Rattle.rows.proofs.Tabled.{arc_low, read_arcs, cell_of}

-- ---- each disjunction has alternatives
abbrev mutual
  Filled : Laid → Type 0
  Filled (laid A ds) = FilledRows ds

  FilledRows : Rows → Type 0
  FilledRows over = Unit {0}
  FilledRows (a besides ds) = (0 < wide_cells a) × FilledCells a × FilledRows ds

  FilledCells : Cells → Type 0
  FilledCells gone = Unit {0}
  FilledCells (d against a) = Filled d × FilledCells a

-- one after the other
filled_next : (ds es : Rows) → FilledRows ds → FilledRows es → FilledRows (ds next es)
filled_next over es p q = q
filled_next (a besides ds) es p q = (p.0, p.1, filled_next ds es p.2 q)

-- so it is with all that a formula lays out
mutual
  lay_filled : (n s : ℕ) (es : List Edge) (φ : Formula) → FilledRows (lay n s es φ)
  lay_filled n s es nil = tt
  lay_filled n s es top = tt
  lay_filled n s es (atom a) = tt
  lay_filled n s es (at f φ) = lay_filled (suc n) n (es ++ (s, f, n) ∷ []) φ
  lay_filled n s es (same p ps) = tt
  lay_filled n s es (all φ φs) =
      filled_next (lay n s es φ) (lay_all (n + count φ) s es φs) (lay_filled n s es φ) (all_filled (n + count φ) s es φs)
  lay_filled n s es (any φ φs) = (omega arith, (lay_filled n s es φ, cells_filled (n + count φ) s es φs), tt)

  all_filled : (n s : ℕ) (es : List Edge) (φs : Formulas) → FilledRows (lay_all n s es φs)
  all_filled n s es (one φ) = lay_filled n s es φ
  all_filled n s es (φ also φs) =
      filled_next (lay n s es φ) (lay_all (n + count φ) s es φs) (lay_filled n s es φ) (all_filled (n + count φ) s es φs)

  cells_filled : (n s : ℕ) (es : List Edge) (φs : Formulas) → FilledCells (cells n s es φs)
  cells_filled n s es (one φ) = (lay_filled n s es φ, tt)
  cells_filled n s es (φ also φs) = (lay_filled n s es φ, cells_filled (n + count φ) s es φs)

-- ---- it is nested as deep as the formula
-- disjunctions one after the other
nests_next : (ds es : Rows) (m : ℕ) → NestsRows ds m → NestsRows es m → NestsRows (ds next es) m
nests_next over es m p q = q
nests_next (a besides ds) es m p q = (p.0, p.1, nests_next ds es m p.2 q)

-- those of a formula
mutual
  lay_nests : (n s : ℕ) (es : List Edge) (φ : Formula) (m : ℕ) → depth φ ≤ m → NestsRows (lay n s es φ) m
  lay_nests n s es nil m l = tt
  lay_nests n s es top m l = tt
  lay_nests n s es (atom a) m l = tt
  lay_nests n s es (at f φ) m l = lay_nests (suc n) n (es ++ (s, f, n) ∷ []) φ m l
  lay_nests n s es (same p ps) m l = tt
  lay_nests n s es (all φ φs) m l = nests_next (lay n s es φ) (lay_all (n + count φ) s es φs) m
      (lay_nests n s es φ m (omega arith)) (all_nests (n + count φ) s es φs m (omega arith))
  lay_nests n s es (any φ φs) m l =
      (omega arith, (lay_nests n s es φ (m - 1) (omega arith), cells_nests (n + count φ) s es φs (m - 1) (omega arith)), tt)

  all_nests : (n s : ℕ) (es : List Edge) (φs : Formulas) (m : ℕ) → depths φs ≤ m → NestsRows (lay_all n s es φs) m
  all_nests n s es (one φ) m l = lay_nests n s es φ m l
  all_nests n s es (φ also φs) m l = nests_next (lay n s es φ) (lay_all (n + count φ) s es φs) m
      (lay_nests n s es φ m (omega arith)) (all_nests (n + count φ) s es φs m (omega arith))

  cells_nests : (n s : ℕ) (es : List Edge) (φs : Formulas) (m : ℕ) → depths φs ≤ m → NestsCells (cells n s es φs) m
  cells_nests n s es (one φ) m l = (lay_nests n s es φ m l, tt)
  cells_nests n s es (φ also φs) m l =
      (lay_nests n s es φ m (omega arith), cells_nests (n + count φ) s es φs m (omega arith))

-- so what allows for the formula's depth allows for what is laid out
pub laid_nests : (φ : Formula) (m : ℕ) → depth φ ≤ m → NestsLaid (laid_out φ) m
laid_nests φ m l = lay_nests 1 0 [] φ m l

-- ---- it lies in the tables
module _ (rs bs ts ks fs : List ℕ) (M : Memory) (φ : Formula) (hold : TablesHold rs bs ts ks fs M) (l : LaidIn M φ)
    (long : length rs ≡ 2 * count φ) where
  abbrev T : Tables
  T = tables rs bs ts ks

  abbrev L : List Item
  L = flattened φ

  abbrev P : Plan
  P = memory_plan M

  -- a row's parent is the plan's
  parent_is : (i : ℕ) → (T.arc i).0 ≡ P.parent (suc i)
  parent_is i = ap (λ (x : ℕ). x % spot_unit) (hold.arcs i)

  -- so is its arc
  edge_is : (i : ℕ) → edge T i ≡ (P.parent (suc i), P.feature (suc i), suc i)
  edge_is i = ap {B = Edge} (λ (x : ℕ). (x % spot_unit, x / spot_unit, suc i)) (hold.arcs i)

  -- the plan's way to a spot is the tables'
  trail_of : (m s : ℕ) → s ≤ m → s ≤ count φ → Trail T s (trail_in P m s)
  trail_of zero s a b = let e : s ≡ 0 = omega arith in at_root e refl
  trail_of (suc m) zero a b = at_root refl refl
  trail_of (suc m) (suc i) a b =
      let low = arc_low rs bs ts ks fs M φ hold l i (omega arith) in
      let e = parent_is i in
      let p = P.parent (suc i) in
      further i (trail_in P m p) refl (omega (arith, long)) (ap (λ (d : Edge). trail_in P m p ++ d ∷ []) (sym (edge_is i)))
      (subst (λ (s : ℕ). Trail T s (trail_in P m p)) (sym e) (trail_of m p (omega (arith, low, e)) (omega (arith, low, e))))

  -- arcs lead to spots of the formula
  abbrev Leading : List Edge → Type 0
  Leading es = (e : Edge) → Memᴰ e es → e.2 ≤ count φ

  -- those that are given to an alternative
  given_leading : (k : ℕ) → Leading (given_to k L).edges
  given_leading k e m =
      let r = cell_of (λ A. A.edges) (λ K. (rows_of K).arcs) arc_column T.arcs T.arc_home (edge T) L
      (read_arcs rs bs ts ks fs M φ hold l long) k e m in
      let b = r.1 in
      let z = ap (λ (d : Edge). d.2) r.3 in
      omega (arith, b, z, long)

  -- where they do, the end of a way is such a spot
  end_low : (s : ℕ) → Leading (plan_trail P s) → s ≤ count φ
  end_low zero f = omega arith
  end_low (suc i) f =
      f (P.parent (suc i), P.feature (suc i), suc i) (Memᴰ.append_right (trail_in P i (P.parent (suc i))) (Memᴰ.head refl))

  -- the arcs before what is given are told by the whole
  same_ways : (k : ℕ) (A : Sheet) (es ds : List Edge) → A ≡ of_edges es plus given_to k L → A ≡ of_edges ds plus given_to k L → es ≡ ds
  same_ways k A es ds p q = append_cancel_right es ds (given_to k L).edges (ap (λ (B : Sheet). B.edges) (sym p ∙ q))

  -- the arcs before and those given
  whole_leading : (k : ℕ) (A : Sheet) (es : List Edge) → Leading es → A ≡ of_edges es plus given_to k L → Leading A.edges
  whole_leading k A es f p = subst (λ (B : Sheet). Leading B.edges) (sym p)
      (λ e m. ⊎_elim (f e) (given_leading k e) (Memᴰ.append_cases es m))

  -- an alternative's arcs, and what is given to it
  way_of : (k : ℕ) (O A : Sheet) (es : List Edge) → ((e : Edge) → Memᴰ e es → Memᴰ e O.edges) → Leading O.edges →
      A ≡ of_edges (plan_trail P (P.spot k)) plus given_to k L → A ≡ of_edges es plus given_to k L →
      (ds : List Edge) × Trail T (T.spot k) ds × (A ≡ of_edges ds plus given_to k L)
      × ((e : Edge) → Memᴰ e ds → Memᴰ e O.edges)
  way_of k O A es sub f p q =
      let ds = plan_trail P (P.spot k) in
      let same = same_ways k A ds es p q in
      let within : (e : Edge) → Memᴰ e ds → Memᴰ e O.edges = λ e m. sub e (subst (Memᴰ e) same m) in (
        ds,
        subst (λ (s : ℕ). Trail T s ds) (sym (hold.spots k))
            (trail_of (P.spot k) (P.spot k) (omega arith) (end_low (P.spot k) (λ e m. f e (within e m)))),
        p,
        within,
      )

  -- the plan's alternatives are the tables'
  mutual
    lies_of : (d : Laid) (k : ℕ) (O : Sheet) (es : List Edge) → ((e : Edge) → Memᴰ e es → Memᴰ e O.edges) →
        Leading O.edges → Filled d → PlanLies P L k d → Named L k es d → Lies T L k O d
    lies_of (laid A ds) k O es sub f full p n = (
      way_of k O A es sub f p.0 n.0,
      subst (LiesRows T L (suc k) 0 A ds) (sym (hold.lasts k))
          (rows_lie ds (suc k) 0 A (P.last k) (whole_leading k A es (λ e m. f e (sub e m)) n.0) full p.1 n.1),
    )

    rows_lie : (ds : Rows) (k z : ℕ) (O : Sheet) (c : ℕ) → Leading O.edges → FilledRows ds → PlanLiesRows P L k z ds c →
        NamedRows L k O ds → LiesRows T L k z O ds c
    rows_lie over k z O c f full p n = p
    rows_lie (a besides ds) k z O c f full p n = (
      p.0,
      full.0,
      cells_lie a k k z O p.0 f full.1 p.1 n.0,
      rows_lie ds (k + wide_cells a) p.0 O c f full.2 p.2 n.1,
    )

    cells_lie : (a : Cells) (g k z : ℕ) (O : Sheet) (c : ℕ) → Leading O.edges → FilledCells a → PlanLiesCells P L g k z a c →
        NamedCells L k O a → LiesCells T L g k z O a c
    cells_lie gone g k z O c f full p n = p
    cells_lie (d against a) g k z O c f full p n = (
      hold.befores k ∙ p.0,
      hold.groups k ∙ p.1,
      lies_of d k O n.0.0 n.0.1 f full.0 p.2 n.0.2,
      cells_lie a g (suc k + wide d) k O c f full.1 p.3 n.1,
    )

-- what a formula lays out lies in the tables
pub laid_lies : (rs bs ts ks fs : List ℕ) (M : Memory) (φ : Formula) → TablesHold rs bs ts ks fs M → LaidIn M φ →
    length rs ≡ 2 * count φ → Lies (tables rs bs ts ks) (flattened φ) 0 blank_sheet (laid_out φ)
laid_lies rs bs ts ks fs M φ hold l long =
    lies_of rs bs ts ks fs M φ hold l long (laid_out φ) 0 blank_sheet [] (λ e m. m) (λ e m. absurd (Memᴰ.not-nil m))
    (lay_filled 1 0 [] φ) l.lies (laid_named φ)
