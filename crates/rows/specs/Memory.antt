-- What the tables hold, by columns: 0 and 1 are those of the arcs, 2 and 3 of the atoms, 4 and 5 of the ties, 6 to 9 of the
-- alternatives, 10 to 13 of what stands open.
-- Assumes nothing: these are definitions.
use Rattle.std.specs.Prelude.{ℕ, suc, ◌+◌, ◌*◌, ◌≡◌, List, [], ◌∷◌, eqb, get_or}
use Rattle.signs.specs.Machine.{if_so}

-- there are at most so many rows of each kind
abbrev pub row_limit : ℕ
row_limit = 4096

-- the words of each column
abbrev pub Memory : Type 0
Memory = ℕ → ℕ → ℕ

abbrev pub stored : Memory → ℕ → ℕ → ℕ → Memory
stored M r i x q j = if_so (eqb q r) (if_so (eqb j i) x (M q j)) (M q j)

-- these tables hold that: a row of arcs, atoms or ties has two words, an alternative and what stands open have four
pub record TablesHold (rs bs ts ks fs : List ℕ) (M : Memory) : Type 0 where
  pub arcs : (j : ℕ) → get_or rs (2 * j) 0 ≡ M 0 j
  pub arc_homes : (j : ℕ) → get_or rs (2 * j + 1) 0 ≡ M 1 j
  pub atoms : (j : ℕ) → get_or bs (2 * j) 0 ≡ M 2 j
  pub atom_homes : (j : ℕ) → get_or bs (2 * j + 1) 0 ≡ M 3 j
  pub ties : (j : ℕ) → get_or ts (2 * j) 0 ≡ M 4 j
  pub tie_homes : (j : ℕ) → get_or ts (2 * j + 1) 0 ≡ M 5 j
  pub groups : (j : ℕ) → get_or ks (4 * j) 0 ≡ M 6 j
  pub befores : (j : ℕ) → get_or ks (4 * j + 1) 0 ≡ M 7 j
  pub lasts : (j : ℕ) → get_or ks (4 * j + 2) 0 ≡ M 8 j
  pub spots : (j : ℕ) → get_or ks (4 * j + 3) 0 ≡ M 9 j
  pub bases : (j : ℕ) → get_or fs (4 * j) 0 ≡ M 10 j
  pub homes : (j : ℕ) → get_or fs (4 * j + 1) 0 ≡ M 11 j
  pub open_groups : (j : ℕ) → get_or fs (4 * j + 2) 0 ≡ M 12 j
  pub depths : (j : ℕ) → get_or fs (4 * j + 3) 0 ≡ M 13 j

-- a list stands in a column from m on
abbrev pub ListedFrom : (ℕ → ℕ) → ℕ → List ℕ → Type 0
ListedFrom g m [] = Unit {0}
ListedFrom g m (x ∷ l) = (g m ≡ x) × ListedFrom g (suc m) l
