-- Words written from the end of a slice towards its beginning, where those that do not fit are only counted.
-- Assumes nothing: these are definitions.
use Rattle.std.specs.Prelude.{ℕ, suc, ◌+◌, ◌-◌, ◌≤◌, min, ◌≡◌, List, ◌++◌, length, get_or}
use Rattle.layout.specs.Standing.{Stands}

-- the words ws end b, if they fit; `len` is their number, or one more than fit
pub record WordsEnd (b : List ℕ) (len : ℕ) (ws : List ℕ) : Type 0 where
  pub many : len ≡ min (length ws) (suc (length b))
  pub words : length ws ≤ length b → Stands b (length b - length ws) ws (length b)

-- the last `len` words of b are those of b', and `len` has become r
pub record Grows (b : List ℕ) (len : ℕ) (b' : List ℕ) (r : ℕ) : Type 0 where
  pub same : length b' ≡ length b
  pub rest : (j : ℕ) → length b ≤ j + len → get_or b' j 0 ≡ get_or b j 0
  pub more : len ≤ r
  pub most : r ≤ suc (length b)

-- the words xs have come before those that were there
pub record PutsBefore (b : List ℕ) (len : ℕ) (xs : List ℕ) (b' : List ℕ) (r : ℕ) : Type 0 where
  pub grows : Grows b len b' r
  pub before : (ws : List ℕ) → WordsEnd b len ws → WordsEnd b' r (xs ++ ws)
