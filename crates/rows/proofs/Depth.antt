-- How deep the alternatives of a formula are nested, and how many rows it gives.
-- Assumes nothing.
use Prim.Native.Nat.{ℕ, suc, ◌+◌, ◌≤◌}
use mathlib.Core.List.{List, [], ◌∷◌, ◌++◌}
use native.Mathlib.Omega.{arith}
use Rattle.formulas.specs.Formula.{Formula, nil, top, atom, at, same, all, any, Formulas, one, ◌also◌, depth, depths}
use Rattle.formulas.specs.Sheet.{count}
use Rattle.formulas.specs.Flat.{width}
use Rattle.rows.specs.Machine.{Alt, ShallowAlts}
use Rattle.rows.specs.Given.{given, given_all, given_any}

pub shallow_both : (m : ℕ) (A B : List Alt) → ShallowAlts m A → ShallowAlts m B → ShallowAlts m (A ++ B)
shallow_both m [] B p q = q
shallow_both m (a ∷ A) B p q = (p.0, shallow_both m A B p.1 q)

pub shallow_left : (m : ℕ) (A B : List Alt) → ShallowAlts m (A ++ B) → ShallowAlts m A
shallow_left m [] B p = tt
shallow_left m (a ∷ A) B p = (p.0, shallow_left m A B p.1)

pub shallow_right : (m : ℕ) (A B : List Alt) → ShallowAlts m (A ++ B) → ShallowAlts m B
shallow_right m [] B p = p
shallow_right m (a ∷ A) B p = shallow_right m A B p.1

-- a bound on the alternatives bounds the formula
mutual
  pub depth_low : (m n k s h d : ℕ) (φ : Formula) → d ≤ m → ShallowAlts m (given n k s h d φ).alts → d + depth φ ≤ m
  depth_low m n k s h d nil l p = omega arith
  depth_low m n k s h d top l p = omega arith
  depth_low m n k s h d (atom a) l p = omega arith
  depth_low m n k s h d (at f φ) l p = depth_low m (suc n) k n h d φ l p
  depth_low m n k s h d (same q qs) l p = omega arith
  depth_low m n k s h d (all φ φs) l p =
      let X = (given n k s h d φ).alts in
      let Y = (given_all (n + count φ) (k + width φ) s h d φs).alts in
      let a = depth_low m n k s h d φ l (shallow_left m X Y p) in
      let b = all_low m (n + count φ) (k + width φ) s h d φs l (shallow_right m X Y p) in
      omega (arith, a, b)
  depth_low m n k s h d (any φ φs) l p =
      let X = (given n (suc k) s k (suc d) φ).alts in
      let Y = (given_any (n + count φ) (suc k + width φ) s h k d φs).alts in
      let a = depth_low m n (suc k) s k (suc d) φ p.0 (shallow_left m X Y p.1) in
      let b = any_low m (n + count φ) (suc k + width φ) s h k d φs (shallow_right m X Y p.1) in
      omega (arith, a, b)

  all_low : (m n k s h d : ℕ) (φs : Formulas) → d ≤ m → ShallowAlts m (given_all n k s h d φs).alts → d + depths φs ≤ m
  all_low m n k s h d (one φ) l p = depth_low m n k s h d φ l p
  all_low m n k s h d (φ also φs) l p =
      let X = (given n k s h d φ).alts in
      let Y = (given_all (n + count φ) (k + width φ) s h d φs).alts in
      let a = depth_low m n k s h d φ l (shallow_left m X Y p) in
      let b = all_low m (n + count φ) (k + width φ) s h d φs l (shallow_right m X Y p) in
      omega (arith, a, b)

  any_low : (m n k s h g d : ℕ) (φs : Formulas) → ShallowAlts m (given_any n k s h g d φs).alts → suc d + depths φs ≤ m
  any_low m n k s h g d (one φ) p = depth_low m n (suc k) s k (suc d) φ p.0 p.1
  any_low m n k s h g d (φ also φs) p =
      let X = (given n (suc k) s k (suc d) φ).alts in
      let Y = (given_any (n + count φ) (suc k + width φ) s h g d φs).alts in
      let a = depth_low m n (suc k) s k (suc d) φ p.0 (shallow_left m X Y p.1) in
      let b = any_low m (n + count φ) (suc k + width φ) s h g d φs (shallow_right m X Y p.1) in
      omega (arith, a, b)

-- and the formula bounds them
mutual
  pub depth_high : (m n k s h d : ℕ) (φ : Formula) → d + depth φ ≤ m → ShallowAlts m (given n k s h d φ).alts
  depth_high m n k s h d nil l = tt
  depth_high m n k s h d top l = tt
  depth_high m n k s h d (atom a) l = tt
  depth_high m n k s h d (at f φ) l = depth_high m (suc n) k n h d φ l
  depth_high m n k s h d (same q qs) l = tt
  depth_high m n k s h d (all φ φs) l =
      shallow_both m (given n k s h d φ).alts (given_all (n + count φ) (k + width φ) s h d φs).alts
      (depth_high m n k s h d φ (omega arith)) (all_high m (n + count φ) (k + width φ) s h d φs (omega arith))
  depth_high m n k s h d (any φ φs) l = (
    omega arith,
    shallow_both m (given n (suc k) s k (suc d) φ).alts (given_any (n + count φ) (suc k + width φ) s h k d φs).alts
        (depth_high m n (suc k) s k (suc d) φ (omega arith)) (any_high m (n + count φ) (suc k + width φ) s h k d φs (omega arith)),
  )

  all_high : (m n k s h d : ℕ) (φs : Formulas) → d + depths φs ≤ m → ShallowAlts m (given_all n k s h d φs).alts
  all_high m n k s h d (one φ) l = depth_high m n k s h d φ l
  all_high m n k s h d (φ also φs) l =
      shallow_both m (given n k s h d φ).alts (given_all (n + count φ) (k + width φ) s h d φs).alts
      (depth_high m n k s h d φ (omega arith)) (all_high m (n + count φ) (k + width φ) s h d φs (omega arith))

  any_high : (m n k s h g d : ℕ) (φs : Formulas) → suc d + depths φs ≤ m → ShallowAlts m (given_any n k s h g d φs).alts
  any_high m n k s h g d (one φ) l = (omega arith, depth_high m n (suc k) s k (suc d) φ l)
  any_high m n k s h g d (φ also φs) l = (
    omega arith,
    shallow_both m (given n (suc k) s k (suc d) φ).alts (given_any (n + count φ) (suc k + width φ) s h g d φs).alts
        (depth_high m n (suc k) s k (suc d) φ (omega arith)) (any_high m (n + count φ) (suc k + width φ) s h g d φs (omega arith)),
  )
