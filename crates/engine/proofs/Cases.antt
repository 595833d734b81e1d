-- Known inputs by the engine's definitions, which compute: the marks of each mode, the writer's form, the counts.
-- Assumes nothing.
use mathlib.Core.Path.{◌≡◌, refl}
use mathlib.Core.Option.{Option, none, some}
use mathlib.Core.List.{List, [], ◌∷◌}
use Prim.Native.Nat.{ℕ}
use Rattle.theory.specs.Limits.{choice_stop}
use Rattle.theory.specs.Net.{atom, arcs, Graph}
use Rattle.theory.specs.Join.{join}
use Rattle.theory.specs.Descr.{Desc}
use Rattle.theory.specs.Modes.{size}
use Rattle.theory.specs.Layout.{words}
use Rattle.theory.proofs.Empty.{one_arc}
use Rattle.engine.specs.Placed.{Placed, place, stop, ◌also◌, no_more, option}
use Rattle.engine.specs.Marks.{all_kept, left_by}
use Rattle.engine.specs.Quickly.{quick_at}
use Rattle.engine.specs.Counting.{count_at}
use Rattle.engine.specs.Search.{full_left, full_readings_by}
use Rattle.engine.specs.Shown.{shown}

abbrev leaf : Graph → Placed
leaf g = place g stop

abbrev written : Option Desc → List ℕ
written none = []
written (some d) = words (shown d)

abbrev quick_words : Placed → List ℕ
quick_words d = written (left_by d (quick_at d))

abbrev full_words : Placed → List ℕ
full_words d = elim (quick_at d) [ none ↦ [] | some m ↦ written (full_left m d) ]

abbrev full_count : Placed → ℕ
full_count d = elim (quick_at d) [ none ↦ 0 | some m ↦ full_readings_by m d ]

-- P with S, joined: "both disjunctions stay" in mode 1, and mode 2 has 22 words and 2 readings
abbrev PS : Placed
PS =
    place (arcs [] ∷ [])
    (option 1 (leaf (one_arc 1 10)) (option 2 (leaf (one_arc 1 11)) no_more)
    also option 3 (leaf (one_arc 1 10)) (option 4 (leaf (arcs ((1, 1) ∷ (2, 2) ∷ []) ∷ atom 10 ∷ atom 10 ∷ [])) no_more)
    also stop)

full_case : full_words PS ≡ 2 ∷ 1 ∷ 1 ∷ 1 ∷ 65546 ∷ 1 ∷ 2 ∷ 2 ∷ 1 ∷ 1 ∷ 1 ∷ 65546 ∷ 0 ∷ 3 ∷ 2 ∷ 1 ∷ 1 ∷ 2 ∷ 2 ∷ 65546 ∷ 65546 ∷ 0 ∷ []
unfolding Rattle.modes_by_marks.specs.Quickly.quick_at Rattle.modes_by_marks.specs.Quickly.passes_at
    Rattle.modes_by_marks.specs.Quickly.try_at size Rattle.descriptions.specs.Descr.agree join Rattle.modes_by_marks.specs.Shown.shown
    Rattle.modes_by_marks.specs.Search.full_left Rattle.modes_by_marks.specs.Search.search Rattle.modes_by_marks.specs.Search.dive
full_case = refl

full_case_readings : full_count PS ≡ 2
unfolding Rattle.modes_by_marks.specs.Quickly.quick_at Rattle.modes_by_marks.specs.Quickly.passes_at
    Rattle.modes_by_marks.specs.Quickly.try_at size Rattle.descriptions.specs.Descr.agree join
    Rattle.modes_by_marks.specs.Search.full_readings_by Rattle.modes_by_marks.specs.Search.search Rattle.modes_by_marks.specs.Search.dive
full_case_readings = refl

full_case_choices : count_at choice_stop all_kept PS ≡ 4
unfolding count_at
full_case_choices = refl

-- the later disjunction is folded in the first pass, and the earlier one by it in the second
quick_case :
    quick_words
    (place (one_arc 2 10) (option 1 (leaf (one_arc 1 10)) (option 2 (leaf (one_arc 1 11)) no_more) also option 3 (leaf (one_arc 1 11))
    (option 4 (leaf (one_arc 2 11)) no_more) also stop))
    ≡ 3 ∷ 2 ∷ 1 ∷ 1 ∷ 2 ∷ 2 ∷ 65547 ∷ 65546 ∷ 0 ∷ []
unfolding Rattle.modes_by_marks.specs.Quickly.quick_at Rattle.modes_by_marks.specs.Quickly.passes_at
    Rattle.modes_by_marks.specs.Quickly.try_at size Rattle.descriptions.specs.Descr.agree join Rattle.modes_by_marks.specs.Shown.shown
quick_case = refl
