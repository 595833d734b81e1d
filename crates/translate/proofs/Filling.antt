-- Homes are filled one after another.
-- Assumes nothing.
use Prim.Native.Nat.{ℕ, ◌<◌}
use mathlib.Core.Path.{◌≡◌}
use mathlib.Core.List.{List}
use lib.ListN.{get_or}

-- the first i have their own numbers
abbrev pub OwnTo : List ℕ → ℕ → Type 0
OwnTo hm i = (j : ℕ) → j < i → get_or hm j 0 ≡ j
