-- How often a verdict was given, and the table of counts: one cell is raised. Assumes nothing.
use mathlib.Core.Path.{◌≡◌, refl}
use mathlib.Core.List.{List}
use mathlib.Core.Logic.{◌⊎◌, inl, inr}
use Prim.Native.Nat.{ℕ, ◌+◌, ◌*◌, ◌<◌}
use lib.ListN.{length, get_or, set, length-set}
use Rattle.suite.proofs.Cells.{all_zero}
use Rattle.verdicts.specs.Verdicts.{totals_after, numbers, cells, cell_of, no_table, raised_cell}
use Rattle.verdicts.specs.declared.verdict.Verdict.{Verdict}
use Rattle.verdicts.specs.declared.verdict.Verdict.TheVariants.{Good, Refused}
use Rattle.verdicts.specs.declared.verdict.Totals.{Totals}

-- ---- how often
module _ (s : Totals) where
  pub one_good : (w : Verdict) → (w ≡ Good) ⊎ (w ≡ Refused) →
      record { good = s.good + 1; other = s.other; missed = s.missed } ≡ totals_after w s
  unfolding totals_after
  one_good w (inl e) = rw e refl
  one_good w (inr e) = rw e refl

-- ---- the table
pub no_cell : (j : ℕ) → get_or no_table j 0 ≡ 0
unfolding no_table
no_cell j = all_zero cells j

pub raised_size : (table : List ℕ) (cell : ℕ) → length (raised_cell table cell) ≡ length table
unfolding raised_cell
raised_size table cell = length-set table cell (get_or table cell 0 + 1)

pub cell_low : (table : List ℕ) (m n m' n' : ℕ) → m ≡ m' → n ≡ n' → get_or table (cell_of m' n') 0 < 64 → get_or table (numbers * m + n) 0 < 64
unfolding cell_of
cell_low table m n m' n' e f h = rw (e, f) h

pub cell_raised : (table : List ℕ) (m n m' n' : ℕ) → m ≡ m' → n ≡ n' →
    set table (numbers * m + n) (get_or table (numbers * m + n) 0 + 1) ≡ raised_cell table (cell_of m' n')
unfolding raised_cell cell_of
cell_raised table m n m' n' e f = rw (e, f) refl
