-- A forest of parents P, and the labels L that it stands for. Assumes nothing.
use Rattle.std.specs.Prelude.{ℕ, suc, ◌+◌, ◌*◌, ◌-◌, ◌/◌, ◌%◌, ◌≤◌, ◌<◌, ◌≡◌, List, [], ◌∷◌, map, eqb, length, get_or}
use Rattle.area.specs.Map.{PARENT}
use Rattle.area.specs.Region.{region}
use Rattle.forest.specs.Labels.{by_test, how_many, Yields}

-- ---- the word of a node: its parent's number; that of a root has its own number, and this times how many nodes its class has beside it
abbrev pub SIZE_STEP : ℕ
SIZE_STEP = 1024

abbrev pub parent_of : ℕ → ℕ
parent_of v = v % SIZE_STEP

abbrev pub size_of : ℕ → ℕ
size_of v = v / SIZE_STEP + 1

abbrev pub root_word : ℕ → ℕ → ℕ
root_word c m = c + SIZE_STEP * (m - 1)

-- the parents of the n nodes
unfoldable pub parents : ℕ → List ℕ → List ℕ
parents n w = map parent_of (region PARENT n w)

-- ---- a forest
-- ranks rise from each node to its parent, up to a root, and are ten at most
pub record Shape (P : List ℕ) : Type 0 where
  pub inside : (i : ℕ) → i < length P → get_or P i 0 < length P
  pub rank : ℕ → ℕ
  pub up : (i : ℕ) → i < length P → (get_or P i 0 ≡ i → ⊥) → rank i < rank (get_or P i 0)
  pub ten : (i : ℕ) → i < length P → rank i ≤ 10

-- L labels each node by its root
pub record Forest (P L : List ℕ) : Type 0 where
  pub len : length L ≡ length P
  pub follow : (i : ℕ) → i < length P → get_or L i 0 ≡ get_or L (get_or P i 0) 0
  pub tops : (i : ℕ) → i < length P → get_or P i 0 ≡ i → get_or L i 0 ≡ i

-- P' has classes of P together: a node has another label only where its class went under one that had more nodes, or as many and the
-- lower number
abbrev pub SmallerUnder : List ℕ → List ℕ → Type 0
SmallerUnder P P' = (L L' : List ℕ) → Forest P L → Forest P' L' → (i : ℕ) → i < length P →
    (get_or L' i 0 ≡ get_or L i 0 → ⊥) → Yields (get_or L i 0) (how_many (get_or L i 0) L) (get_or L' i 0) (how_many (get_or L' i 0) L)

-- r is the root of i
pub record Root (n : ℕ) (w : List ℕ) (i r : ℕ) : Type 0 where
  pub low : r < n
  pub top : get_or (parents n w) r 0 ≡ r
  pub is : (L : List ℕ) → Forest (parents n w) L → get_or L i 0 ≡ r

-- the roots of P, whose first node is i
unfoldable pub tops : ℕ → List ℕ → ℕ
tops i [] = 0
tops i (x ∷ P) = by_test (eqb x i) 1 0 + tops (suc i) P
