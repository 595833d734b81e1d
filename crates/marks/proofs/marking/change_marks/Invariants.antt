use Rattle.std.proofs.Common.{◌≡◌, ◌≤◌, ◌<◌, ℕ, get_or}
use Rattle.marks.proofs.marking.change_marks.Given as goal

abbrev pub invariant-loop-mark : goal.invariant-loop-mark
invariant-loop-mark g l =
    ((i : ℕ) → i < l.mark-index → goal.F-post g l.change (get_or l.initial.mark-items i 0) (get_or l.mark-items i 0))
    × ((i : ℕ) → l.mark-index ≤ i → get_or l.mark-items i 0 ≡ get_or l.initial.mark-items i 0)
