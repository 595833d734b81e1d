-- What the signs of a formula give, by the formula: its rows as `flat` has them, and its alternatives beside them.
-- Assumes nothing: these are definitions.
use Rattle.std.specs.Prelude.{ℕ, suc, ◌+◌, Bool, true, false, [], ◌∷◌, length}
use Rattle.formulas.specs.Formula.{Formula, nil, top, atom, at, same, all, any, Formulas, one, ◌also◌}
use Rattle.formulas.specs.Sheet.{◌plus◌, of_edges, of_atom, way, way_end, tied, count}
use Rattle.formulas.specs.Flat.{width}
use Rattle.rows.specs.Machine.{Out, no_rows, ◌then◌, homed, begins}

-- φ at the spot s in the alternative h, which is nested d deep; its spots have numbers from n on, its alternatives from k on
abbrev mutual
  pub given : ℕ → ℕ → ℕ → ℕ → ℕ → Formula → Out
  given n k s h d nil = no_rows
  given n k s h d top = homed h (of_atom s 0 plus of_atom s 1)
  given n k s h d (atom a) = homed h (of_atom s a)
  given n k s h d (at f φ) = homed h (of_edges ((s, f, n) ∷ [])) then given (suc n) k n h d φ
  given n k s h d (same p ps) = homed h (of_edges (way n s p) plus tied (n + length p) s (way_end n s p) ps)
  given n k s h d (all φ φs) = given n k s h d φ then given_all (n + count φ) (k + width φ) s h d φs
  given n k s h d (any φ φs) = begins h k s (suc d) then given n (suc k) s k (suc d) φ then given_any (n + count φ)
      (suc k + width φ) s h k d φs

  pub given_all : ℕ → ℕ → ℕ → ℕ → ℕ → Formulas → Out
  given_all n k s h d (one φ) = given n k s h d φ
  given_all n k s h d (φ also φs) = given n k s h d φ then given_all (n + count φ) (k + width φ) s h d φs

  -- alternatives of h beside the first one, g
  pub given_any : ℕ → ℕ → ℕ → ℕ → ℕ → ℕ → Formulas → Out
  given_any n k s h g d (one φ) = begins h g s (suc d) then given n (suc k) s k (suc d) φ
  given_any n k s h g d (φ also φs) =
      begins h g s (suc d) then given n (suc k) s k (suc d) φ then given_any (n + count φ) (suc k + width φ) s h g d φs

abbrev pub many : Formulas → Bool
many (one φ) = false
many (φ also φs) = true
