-- What counting choices asks of the working area, and what it promises.
-- Assumes nothing: these are definitions.
use Rattle.std.specs.Prelude.{ℕ, ◌≤◌, ◌≡◌, List}
use Rattle.theory.specs.Limits.{choice_stop}
use Rattle.area.specs.Map.{SECOND}
use Rattle.engine.specs.Placed.{Placed, Places, inner}
use Rattle.engine.specs.Beside.{◌next◌}
use Rattle.engine.specs.Counting.{count_at, count_all_at}
use Rattle.marks.specs.Readable.{Readable}
use Rattle.marks.specs.Marked.{marking}

-- "The number of choices of a description is the product over its disjunctions of the sum over their alternatives; it is worked out by
-- descent over the nesting, stopping at 4,097": the kept ones of whatever description stands at p
pub record Counted (w : List ℕ) (p left r : ℕ) : Type 0 where
  pub small : r ≤ choice_stop
  pub is : (c : Readable w p left) → r ≡ count_at choice_stop (marking w) c.lies.d

-- "The disjunctions are those of the first input, then those of the second, in order."
abbrev pub inner_both : Placed → Placed → Places
inner_both d e = inner d next inner e

-- the same, for the two inputs as loaded
abbrev pub CountedBoth : List ℕ → ℕ → ℕ → Type 0
CountedBoth w left r = (c : Readable w 0 left) (e : Readable w SECOND left) →
    r ≡ count_all_at choice_stop (marking w) (inner_both c.lies.d e.lies.d)
