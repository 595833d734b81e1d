-- Rows stored in a table of two words a row, or of four.
-- Assumes nothing: these are definitions.
use Rattle.std.specs.Prelude.{ℕ, ◌+◌, ◌*◌, ◌≡◌, List, eqb, length, get_or}
use Rattle.signs.specs.Machine.{if_so}

-- row i has become x, of the alternative h
pub record RowPut (w : List ℕ) (i x h : ℕ) (w' : List ℕ) : Type 0 where
  pub size : length w' ≡ length w
  pub row : (j : ℕ) → get_or w' (2 * j) 0 ≡ if_so (eqb j i) x (get_or w (2 * j) 0)
  pub home : (j : ℕ) → get_or w' (2 * j + 1) 0 ≡ if_so (eqb j i) h (get_or w (2 * j + 1) 0)

-- the four words of row i have become a, b, c and d
pub record FourPut (w : List ℕ) (i a b c d : ℕ) (w' : List ℕ) : Type 0 where
  pub size : length w' ≡ length w
  pub first : (j : ℕ) → get_or w' (4 * j) 0 ≡ if_so (eqb j i) a (get_or w (4 * j) 0)
  pub second : (j : ℕ) → get_or w' (4 * j + 1) 0 ≡ if_so (eqb j i) b (get_or w (4 * j + 1) 0)
  pub third : (j : ℕ) → get_or w' (4 * j + 2) 0 ≡ if_so (eqb j i) c (get_or w (4 * j + 2) 0)
  pub fourth : (j : ℕ) → get_or w' (4 * j + 3) 0 ≡ if_so (eqb j i) d (get_or w (4 * j + 3) 0)

-- the alternative k of o stands there: beside g, after the last one of o, with none in it, at the spot s
pub record AlternativePut (w : List ℕ) (k o g s : ℕ) (w' : List ℕ) : Type 0 where
  pub size : length w' ≡ length w
  pub groups : (j : ℕ) → get_or w' (4 * j) 0 ≡ if_so (eqb j k) g (get_or w (4 * j) 0)
  pub befores : (j : ℕ) → get_or w' (4 * j + 1) 0 ≡ if_so (eqb j k) (get_or w (4 * o + 2) 0) (get_or w (4 * j + 1) 0)
  pub lasts : (j : ℕ) → get_or w' (4 * j + 2) 0 ≡ if_so (eqb j k) 0 (if_so (eqb j o) k (get_or w (4 * j + 2) 0))
  pub spots : (j : ℕ) → get_or w' (4 * j + 3) 0 ≡ if_so (eqb j k) s (get_or w (4 * j + 3) 0)
