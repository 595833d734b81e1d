-- The numbers of a formula's text are below 65,536, and so are those of its rows.
-- Assumes nothing.
use Prim.Native.Nat.{ℕ, suc, ◌+◌}
use mathlib.Core.Path.{◌≡◌, sym, subst}
use mathlib.Core.List.{List, [], ◌∷◌, ◌++◌}
use native.Mathlib.Omega.{arith}
use lib.ListN.{length}
use Rattle.theory.specs.Join.{Edge}
use Rattle.formulas.specs.Formula.{Path, Formula, nil, top, atom, at, same, all, any, Formulas, one, ◌also◌, PathFits, PathsFit}
use Rattle.formulas.specs.Formula.{FormulaFits, FitAll}
use Rattle.formulas.specs.Sheet.{way, way_end, tied, count}
use Rattle.formulas.specs.Flat.{width}
use Rattle.signs.specs.Signs.{Sign, greater, and, or, right, Spelt}
use Rattle.signs.specs.Grammar.{conjunction, disjunction, features, path_rest, Unit_is, is_nil, is_top, is_atom, is_at, is_same}
use Rattle.signs.specs.Grammar.{is_group, Units, one_unit, more_units, Parts, one_part, more_parts, Whole, whole}
use Rattle.signs.proofs.Words.{Each, spelt_small}
use Rattle.signs.proofs.Words as words
use Rattle.rows.specs.Machine.{in_home}
use Rattle.rows.specs.Given.{given, given_all, given_any}
use Rattle.rows.specs.Laid.{LowArcs, LowAtoms}

abbrev Low : List Sign → Type 0
Low σ = Each words.Fits σ

low_left : (σ τ : List Sign) → Low (σ ++ τ) → Low σ
low_left [] τ p = tt
low_left (s ∷ σ) τ p = (p.0, low_left σ τ p.1)

low_right : (σ τ : List Sign) → Low (σ ++ τ) → Low τ
low_right [] τ p = p
low_right (s ∷ σ) τ p = low_right σ τ p.1

low_as : {σ τ : List Sign} → σ ≡ τ → Low σ → Low τ
low_as e p = subst Low e p

path_fits : (p : Path) → Low (features p) → PathFits p
path_fits [] l = tt
path_fits (f ∷ p) l = let x = l.0 in (omega (arith, x), path_fits p l.1)

rest_fits : (ps : List Path) → Low (path_rest ps) → PathsFit ps
rest_fits [] l = tt
rest_fits (p ∷ ps) l =
    let m = l.1.1 in
    (path_fits p (low_left (features p) (greater ∷ path_rest ps) m), rest_fits ps (low_right (features p) (greater ∷ path_rest ps) m).1)

conjunction_fits : (us : Formulas) → FitAll us → FormulaFits (conjunction us)
conjunction_fits (one φ) p = p
conjunction_fits (φ also φs) p = p

disjunction_fits : (φs : Formulas) → FitAll φs → FormulaFits (disjunction φs)
disjunction_fits (one φ) p = p
disjunction_fits (φ also φs) p = p

mutual
  unit_fits : {σ : List Sign} {φ : Formula} → Unit_is σ φ → Low σ → FormulaFits φ
  unit_fits (is_nil e q) l = subst FormulaFits (sym q) tt
  unit_fits (is_top e q) l = subst FormulaFits (sym q) tt
  unit_fits (is_atom a e q) l = let x = (low_as e l).0 in subst FormulaFits (sym q) (omega (arith, x))
  unit_fits (is_at f τ ψ u e q) l =
      let m = low_as e l in
      let x = m.0 in
      subst FormulaFits (sym q) (omega (arith, x), unit_fits u m.1.1)
  unit_fits (is_same p ps e q) l =
      let m = (low_as e l).1.1 in
      subst FormulaFits (sym q)
      (path_fits p (low_left (features p) (greater ∷ path_rest ps) m), rest_fits ps (low_right (features p) (greater ∷ path_rest ps) m).1)
  unit_fits (is_group τ φs p e q) l =
      subst FormulaFits (sym q) (disjunction_fits φs (parts_fit p (low_left τ (right ∷ []) (low_as e l).1)))

  units_fit : {σ : List Sign} {us : Formulas} → Units σ us → Low σ → FitAll us
  units_fit (one_unit φ u e) l = subst FitAll (sym e) (unit_fits u l)
  units_fit (more_units τ ρ φ ψs u us e q) l =
      let m = low_as e l in
      subst FitAll (sym q) (unit_fits u (low_left τ (and ∷ ρ) m), units_fit us (low_right τ (and ∷ ρ) m).1)

  parts_fit : {σ : List Sign} {φs : Formulas} → Parts σ φs → Low σ → FitAll φs
  parts_fit (one_part us u e) l = subst FitAll (sym e) (conjunction_fits us (units_fit u l))
  parts_fit (more_parts τ ρ us ψs u p e q) l =
      let m = low_as e l in
      subst FitAll (sym q) (conjunction_fits us (units_fit u (low_left τ (or ∷ ρ) m)), parts_fit p (low_right τ (or ∷ ρ) m).1)

-- a formula's text has small numbers only
pub whole_fits : {σ : List Sign} {φ : Formula} {t : List ℕ} → Spelt σ t → Whole σ φ → FormulaFits φ
whole_fits s (whole φs p e) = subst FormulaFits (sym e) (disjunction_fits φs (parts_fit p (spelt_small s)))

-- ---- its rows
arcs_both : (l m : List (ℕ × Edge)) → LowArcs l → LowArcs m → LowArcs (l ++ m)
arcs_both [] m p q = q
arcs_both (e ∷ l) m p q = (p.0, arcs_both l m p.1 q)

way_low : (n s h : ℕ) (p : Path) (es : List Edge) → PathFits p → LowArcs (in_home h es) → LowArcs (in_home h (way n s p ++ es))
way_low n s h [] es f l = l
way_low n s h (a ∷ p) es f l = (f.0, way_low (suc n) n h p es f.1 l)

tied_low : (n s e h : ℕ) (ps : List Path) → PathsFit ps → LowArcs (in_home h (tied n s e ps).edges)
tied_low n s e h [] f = tt
tied_low n s e h (q ∷ ps) f =
    way_low n s h q (tied (n + length q) s e ps).edges f.0 (tied_low (n + length q) s e h ps f.1)

mutual
  pub arcs_low : (n k s h d : ℕ) (φ : Formula) → FormulaFits φ → LowArcs (given n k s h d φ).arcs
  arcs_low n k s h d nil f = tt
  arcs_low n k s h d top f = tt
  arcs_low n k s h d (atom a) f = tt
  arcs_low n k s h d (at a φ) f = (f.0, arcs_low (suc n) k n h d φ f.1)
  arcs_low n k s h d (same p ps) f =
      way_low n s h p (tied (n + length p) s (way_end n s p) ps).edges f.0 (tied_low (n + length p) s (way_end n s p) h ps f.1)
  arcs_low n k s h d (all φ φs) f = arcs_both (given n k s h d φ).arcs (given_all (n + count φ) (k + width φ) s h d φs).arcs
      (arcs_low n k s h d φ f.0) (all_arcs_low (n + count φ) (k + width φ) s h d φs f.1)
  arcs_low n k s h d (any φ φs) f =
      arcs_both (given n (suc k) s k (suc d) φ).arcs (given_any (n + count φ) (suc k + width φ) s h k d φs).arcs
      (arcs_low n (suc k) s k (suc d) φ f.0) (any_arcs_low (n + count φ) (suc k + width φ) s h k d φs f.1)

  all_arcs_low : (n k s h d : ℕ) (φs : Formulas) → FitAll φs → LowArcs (given_all n k s h d φs).arcs
  all_arcs_low n k s h d (one φ) f = arcs_low n k s h d φ f
  all_arcs_low n k s h d (φ also φs) f = arcs_both (given n k s h d φ).arcs (given_all (n + count φ) (k + width φ) s h d φs).arcs
      (arcs_low n k s h d φ f.0) (all_arcs_low (n + count φ) (k + width φ) s h d φs f.1)

  any_arcs_low : (n k s h g d : ℕ) (φs : Formulas) → FitAll φs → LowArcs (given_any n k s h g d φs).arcs
  any_arcs_low n k s h g d (one φ) f = arcs_low n (suc k) s k (suc d) φ f
  any_arcs_low n k s h g d (φ also φs) f =
      arcs_both (given n (suc k) s k (suc d) φ).arcs (given_any (n + count φ) (suc k + width φ) s h g d φs).arcs
      (arcs_low n (suc k) s k (suc d) φ f.0) (any_arcs_low (n + count φ) (suc k + width φ) s h g d φs f.1)

atoms_both : (l m : List (ℕ × (ℕ × ℕ))) → LowAtoms l → LowAtoms m → LowAtoms (l ++ m)
atoms_both [] m p q = q
atoms_both (e ∷ l) m p q = (p.0, atoms_both l m p.1 q)

no_atoms : (n s e h : ℕ) (ps : List Path) → LowAtoms (in_home h (tied n s e ps).atoms)
no_atoms n s e h [] = tt
no_atoms n s e h (q ∷ ps) = no_atoms (n + length q) s e h ps

mutual
  pub atoms_low : (n k s h d : ℕ) (φ : Formula) → FormulaFits φ → LowAtoms (given n k s h d φ).bears
  atoms_low n k s h d nil f = tt
  atoms_low n k s h d top f = (omega arith, (omega arith, tt))
  atoms_low n k s h d (atom a) f = (f, tt)
  atoms_low n k s h d (at a φ) f = atoms_low (suc n) k n h d φ f.1
  atoms_low n k s h d (same p ps) f = no_atoms (n + length p) s (way_end n s p) h ps
  atoms_low n k s h d (all φ φs) f = atoms_both (given n k s h d φ).bears (given_all (n + count φ) (k + width φ) s h d φs).bears
      (atoms_low n k s h d φ f.0) (all_atoms_low (n + count φ) (k + width φ) s h d φs f.1)
  atoms_low n k s h d (any φ φs) f =
      atoms_both (given n (suc k) s k (suc d) φ).bears (given_any (n + count φ) (suc k + width φ) s h k d φs).bears
      (atoms_low n (suc k) s k (suc d) φ f.0) (any_atoms_low (n + count φ) (suc k + width φ) s h k d φs f.1)

  all_atoms_low : (n k s h d : ℕ) (φs : Formulas) → FitAll φs → LowAtoms (given_all n k s h d φs).bears
  all_atoms_low n k s h d (one φ) f = atoms_low n k s h d φ f
  all_atoms_low n k s h d (φ also φs) f = atoms_both (given n k s h d φ).bears (given_all (n + count φ) (k + width φ) s h d φs).bears
      (atoms_low n k s h d φ f.0) (all_atoms_low (n + count φ) (k + width φ) s h d φs f.1)

  any_atoms_low : (n k s h g d : ℕ) (φs : Formulas) → FitAll φs → LowAtoms (given_any n k s h g d φs).bears
  any_atoms_low n k s h g d (one φ) f = atoms_low n (suc k) s k (suc d) φ f
  any_atoms_low n k s h g d (φ also φs) f =
      atoms_both (given n (suc k) s k (suc d) φ).bears (given_any (n + count φ) (suc k + width φ) s h g d φs).bears
      (atoms_low n (suc k) s k (suc d) φ f.0) (any_atoms_low (n + count φ) (suc k + width φ) s h g d φs f.1)
