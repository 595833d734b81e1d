-- Two roots, of which one goes under the other: what the contracts of `src/forest.rt` and of merges cite. Assumes nothing.
use Rattle.std.specs.Prelude.{ℕ, ◌+◌, ◌≤◌, ◌<◌, ◌≡◌, Bool, true, false, ◌⊎◌, List, set, get_or}
use Rattle.area.specs.Map.{PARENT, LOG, STACK, ENTRIES, NODES}
use Rattle.area.specs.Log.{Logged, Later}
use Rattle.forest.specs.declared.held.Held.TheVariants.{Nothing}
use Rattle.forest.specs.Labels.{Yields}
use Rattle.forest.specs.Held.{held_by}
use Rattle.forest.specs.Forest.{size_of, parents}

-- the root b goes under the root a, by what their words tell of their classes
abbrev pub GoesUnder : List ℕ → ℕ → ℕ → Type 0
GoesUnder w b a = Yields b (size_of (get_or w (PARENT + b) 0)) a (size_of (get_or w (PARENT + a) 0))

pub record YieldTold (w : List ℕ) (b a : ℕ) (r : Bool) : Type 0 where
  pub under : r ≡ true → GoesUnder w b a
  pub over : r ≡ false → GoesUnder w a b

-- what is asked of a link: a root a, and b
pub record Linking (n k : ℕ) (w : List ℕ) (a b : ℕ) : Type 0 where
  pub logged : Logged k w
  pub room : k + 2 ≤ ENTRIES
  pub own : get_or (parents n w) a 0 ≡ a
  pub low : (a < n) × (b < n)
  pub other : a ≡ b → ⊥
  pub fits : size_of (get_or w (PARENT + a) 0) + size_of (get_or w (PARENT + b) 0) ≤ NODES

-- b went under a, whose word tells the nodes of both; nothing but the words of the two has changed
pub record Linked (n k : ℕ) (w : List ℕ) (a b k' : ℕ) (w' : List ℕ) : Type 0 where
  pub next : k' ≡ k + 2
  pub later : Later k w k' w'
  pub par : parents n w' ≡ set (parents n w) b a
  pub sum : size_of (get_or w' (PARENT + a) 0) ≡ size_of (get_or w (PARENT + a) 0) + size_of (get_or w (PARENT + b) 0)
  pub rest : (j : ℕ) → (j ≡ PARENT + a → ⊥) → (j ≡ PARENT + b → ⊥) → (j < LOG) ⊎ (STACK ≤ j) →
      get_or w' j 0 ≡ get_or w j 0

-- two roots whose classes are to become one, b under a
pub record Fusing (n : ℕ) (w : List ℕ) (a b : ℕ) : Type 0 where
  pub low_a : a < n
  pub low_b : b < n
  pub other : a ≡ b → ⊥
  pub top_a : get_or (parents n w) a 0 ≡ a
  pub top_b : get_or (parents n w) b 0 ≡ b
  pub lighter : GoesUnder w b a

-- y is a class by itself that holds nothing
pub record ByItself (w : List ℕ) (y : ℕ) : Type 0 where
  pub own : get_or w (PARENT + y) 0 ≡ y
  pub empty : held_by w y ≡ Nothing
