-- To which alternative what is given to each has come: `homes` has its number at the place of each. Alternatives are numbered so that
-- those of a disjunction, and all that stand in them, are those from one number up to another.
-- Assumes nothing: these are definitions.
use Rattle.std.specs.Prelude.{ℕ, ◌<◌, ◌≤◌, ◌≡◌, ◌⊎◌, ◌≢◌, length, get_or}
use mathlib.Core.List.{List, Memᴰ}

-- what had come to x has come to k
pub record Rehomes (hm : List ℕ) (x k : ℕ) (hm' : List ℕ) : Type 0 where
  pub same : length hm' ≡ length hm
  pub here : (j : ℕ) → j < length hm → get_or hm j 0 ≡ x → get_or hm' j 0 ≡ k
  pub rest : (j : ℕ) → get_or hm j 0 ≢ x → get_or hm' j 0 ≡ get_or hm j 0

-- what is given to the alternatives from k up to m has not moved, and nothing has come to them
pub record Untouched (hm : List ℕ) (k m : ℕ) : Type 0 where
  pub own : (j : ℕ) → k ≤ j → j < m → get_or hm j 0 ≡ j
  pub apart : (j : ℕ) → j < length hm → (j < k) ⊎ (m ≤ j) → (get_or hm j 0 < k) ⊎ (m ≤ get_or hm j 0)

-- what is given to those from k up to m has moved among them at most
pub record WithinHomes (hm hm' : List ℕ) (k m : ℕ) : Type 0 where
  pub same : length hm' ≡ length hm
  pub rest : (j : ℕ) → (j < k) ⊎ (m ≤ j) → get_or hm' j 0 ≡ get_or hm j 0
  pub inside : (j : ℕ) → k ≤ j → j < m → (k ≤ get_or hm' j 0) × (get_or hm' j 0 < m)

-- what is given to those from g up to m has moved among them, or has come to k
pub record BranchHomes (hm hm' : List ℕ) (k g m : ℕ) : Type 0 where
  pub same : length hm' ≡ length hm
  pub rest : (j : ℕ) → (j < g) ⊎ (m ≤ j) → get_or hm' j 0 ≡ get_or hm j 0
  pub inside : (j : ℕ) → g ≤ j → j < m → (get_or hm' j 0 ≡ k) ⊎ ((g ≤ get_or hm' j 0) × (get_or hm' j 0 < m))

-- of the alternatives from k up to m exactly those named have come to x
pub record NamedCome (hm : List ℕ) (k m x : ℕ) (names : List ℕ) : Type 0 where
  pub named : (j : ℕ) → Memᴰ j names → (k ≤ j) × (j < m) × (get_or hm j 0 ≡ x)
  pub all : (j : ℕ) → k ≤ j → j < m → get_or hm j 0 ≡ x → Memᴰ j names
