-- The modes by marks, from the two placed inputs to the results of document 01.
-- Assumes nothing.
use mathlib.Core.Path.{◌≡◌}
use mathlib.Core.Option.{none, some}
use Prim.Native.Nat.{ℕ, suc}
use lib.Dec.{ltb}
use lib.ListN.{length}
use Rattle.theory.specs.Limits.{choice_limit, choice_stop}
use Rattle.theory.specs.Descr.{Desc, number}
use Rattle.theory.specs.Modes.{quick, full}
use Rattle.theory.specs.Answer.{consistent}
use Rattle.theory.specs.Canonical.{Can}
use Rattle.engine.specs.Placed.{Placed, strip}
use Rattle.engine.specs.Marks.{Marking, keep}
use Rattle.engine.specs.Beside.{joined_placed}
use Rattle.engine.specs.Quickly.{quick_at, Leaves}
use Rattle.engine.specs.Counting.{count_at}
use Rattle.engine.specs.Search.{search, lit, full_left, full_readings_by}
use Rattle.engine.specs.Shown.{shown}
use Rattle.modes_by_marks.specs.Names.{names, Apart, Distinct}
use Rattle.engine.specs.Sane.{Sane}
use Rattle.modes_by_marks.proofs.Proper.{Proper}
use Rattle.engine.proofs.Shown.{shown_some}
use Rattle.theory.proofs.Laws.{laws}

pub quick_none : (a b : Placed) (ca : Can (strip a)) (cb : Can (strip b)) (pa : Proper (strip a)) (pb : Proper (strip b)) (wa : Distinct a)
    (wb : Distinct b) (w : Apart (names a) (names b)) (d : Placed) (e : joined_placed a b ≡ some d) → quick_at d ≡ none →
    quick (strip a) (strip b) ≡ none
quick_none = Rattle.modes_by_marks.proofs.Whole.quick_none laws

pub full_none : (a b : Placed) (ca : Can (strip a)) (cb : Can (strip b)) (pa : Proper (strip a)) (pb : Proper (strip b)) (wa : Distinct a)
    (wb : Distinct b) (w : Apart (names a) (names b)) (d : Placed) (e : joined_placed a b ≡ some d) → quick_at d ≡ none →
    full (strip a) (strip b) ≡ none
full_none = Rattle.modes_by_marks.proofs.Whole.full_none laws

pub full_consistent : (a b : Placed) (ca : Can (strip a)) (cb : Can (strip b)) (pa : Proper (strip a)) (pb : Proper (strip b))
    (wa : Distinct a) (wb : Distinct b) (w : Apart (names a) (names b)) (d : Placed) (e : joined_placed a b ≡ some d) (m : Marking)
    (q : Leaves d m) → full_readings_by m d ≡ consistent (strip a) (strip b)
full_consistent = Rattle.modes_by_marks.proofs.Whole.full_consistent laws

pub full_can : (a b : Placed) (ca : Can (strip a)) (cb : Can (strip b)) (pa : Proper (strip a)) (pb : Proper (strip b)) (wa : Distinct a)
    (wb : Distinct b) (w : Apart (names a) (names b)) (d : Placed) (e : joined_placed a b ≡ some d) (m : Marking) (q : Leaves d m) →
    (n : ℕ) → length (search (keep m d)) ≡ suc n →
    Can (strip (keep (lit (search (keep m d))) d)) × Sane (strip (keep (lit (search (keep m d))) d))
full_can = Rattle.modes_by_marks.proofs.Whole.full_can laws

pub left_can : (a b : Placed) (ca : Can (strip a)) (cb : Can (strip b)) (pa : Proper (strip a)) (pb : Proper (strip b)) (wa : Distinct a)
    (wb : Distinct b) (w : Apart (names a) (names b)) (d : Placed) (e : joined_placed a b ≡ some d) (m : Marking) (q : Leaves d m) →
    Can (strip (keep m d))
left_can = Rattle.modes_by_marks.proofs.Whole.left_can laws

pub left_sane : (a b : Placed) (ca : Can (strip a)) (cb : Can (strip b)) (pa : Proper (strip a)) (pb : Proper (strip b)) (wa : Distinct a)
    (wb : Distinct b) (w : Apart (names a) (names b)) (d : Placed) (e : joined_placed a b ≡ some d) (m : Marking) (q : Leaves d m) →
    Sane (strip (keep m d))
left_sane = Rattle.modes_by_marks.proofs.Whole.left_sane laws

pub quick_shown : (a b : Placed) (ca : Can (strip a)) (cb : Can (strip b)) (pa : Proper (strip a)) (pb : Proper (strip b)) (wa : Distinct a)
    (wb : Distinct b) (w : Apart (names a) (names b)) (d : Placed) (e : joined_placed a b ≡ some d) (m : Marking) (q : Leaves d m) →
    quick (strip a) (strip b) ≡ some (shown (strip (keep m d)))
quick_shown = Rattle.modes_by_marks.proofs.Whole.quick_shown laws

pub full_shown : (a b : Placed) (ca : Can (strip a)) (cb : Can (strip b)) (pa : Proper (strip a)) (pb : Proper (strip b)) (wa : Distinct a)
    (wb : Distinct b) (w : Apart (names a) (names b)) (d : Placed) (e : joined_placed a b ≡ some d) (m : Marking) (q : Leaves d m) →
    full (strip a) (strip b) ≡ shown_some (full_left m d)
full_shown = Rattle.modes_by_marks.proofs.Whole.full_shown laws

pub over_limit_at : (a b : Placed) (ca : Can (strip a)) (cb : Can (strip b)) (pa : Proper (strip a)) (pb : Proper (strip b))
    (wa : Distinct a) (wb : Distinct b) (w : Apart (names a) (names b)) (d : Placed) (e : joined_placed a b ≡ some d) (m : Marking)
    (q : Leaves d m) (r : Desc) (is : quick (strip a) (strip b) ≡ some r) →
    ltb choice_limit (count_at choice_stop m d) ≡ ltb choice_limit (number r)
over_limit_at = Rattle.modes_by_marks.proofs.Whole.over_limit_at laws
