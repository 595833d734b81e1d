-- The number of choices over the kept alternatives.
-- Assumes nothing: these are definitions.
use Rattle.std.specs.Prelude.{true, false, ℕ, ◌+◌, ◌*◌, min}
use Rattle.modes_by_marks.specs.Placed.{Options, Placed, Places, ◌also◌, no_more, option, place, stop}
use Rattle.modes_by_marks.specs.Marks.{Marking}

module _ {Graph : Type 0} where
  -- "the product over its disjunctions of the sum over their alternatives; it is worked out by descent over the nesting, stopping at
  -- 4,097": here at L
  unfoldable mutual
    pub count_at : ℕ → Marking → Placed Graph → ℕ
    count_at L m (place g ds) = count_all_at L m ds

    pub count_all_at : ℕ → Marking → Places Graph → ℕ
    count_all_at L m stop = 1
    count_all_at L m (a also ds) = min (count_any_at L m a * count_all_at L m ds) L

    pub count_any_at : ℕ → Marking → Options Graph → ℕ
    count_any_at L m no_more = 0
    count_any_at L m (option x d a) = elim (m x) [ true ↦ min (count_at L m d + count_any_at L m a) L | false ↦ count_any_at L m a ]
