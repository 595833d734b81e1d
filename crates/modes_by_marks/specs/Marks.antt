-- Marks: which alternatives are kept, by their numbers. The description stays as it is, and a mark goes from true to false where its
-- alternative is dropped.
-- Assumes nothing: these are definitions.
use Rattle.std.specs.Prelude.{Bool, true, false, ℕ, suc, eqb}
use Rattle.std.proofs.Math.Option.{Option, none, some}
use Rattle.descriptions.specs.Descr.{Desc}
use Rattle.modes_by_marks.specs.Placed.{Options, Placed, Places, ◌also◌, no_more, option, place, stop, strip}

abbrev pub Marking : Type 0
Marking = ℕ → Bool

-- before anything is dropped
abbrev pub all_kept : Marking
all_kept y = true

-- "drop those that fail"
abbrev pub drop : ℕ → Marking → Marking
drop x m y = elim (eqb y x) [ true ↦ false | false ↦ m y ]

module _ {Graph : Type 0} where
  -- how many of these alternatives are kept: "none left", "exactly one left"
  abbrev pub kept_of : Marking → Options Graph → ℕ
  kept_of m no_more = 0
  kept_of m (option x d a) = elim (m x) [ true ↦ suc (kept_of m a) | false ↦ kept_of m a ]

  -- what is left where only the marked alternatives are kept; none is folded
  abbrev mutual
    pub keep : Marking → Placed Graph → Placed Graph
    keep m (place g ds) = place g (keep_all m ds)

    pub keep_all : Marking → Places Graph → Places Graph
    keep_all m stop = stop
    keep_all m (a also ds) = keep_any m a also keep_all m ds

    pub keep_any : Marking → Options Graph → Options Graph
    keep_any m no_more = no_more
    keep_any m (option x d a) = elim (m x) [ true ↦ option x (keep m d) (keep_any m a) | false ↦ keep_any m a ]

  -- the description that marks leave, or none where the step failed
  abbrev pub left_by : Placed Graph → Option Marking → Option (Desc Graph)
  left_by d none = none
  left_by d (some m) = some (strip (keep m d))
