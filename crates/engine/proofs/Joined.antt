-- The two inputs side by side, by marks: what they keep, what is certain in both, and the search of both.
-- Assumes nothing.
use mathlib.Core.Path.{◌≡◌}
use mathlib.Core.Option.{some}
use mathlib.Core.List.{List, [], ◌∷◌, ◌++◌}
use Rattle.theory.specs.Net.{Graph, Canonical}
use Rattle.theory.specs.Join.{join}
use Rattle.theory.proofs.Instance.{AllCanonical}
use Rattle.theory.specs.Canonical.{Ctx, Can}
use Rattle.engine.specs.Placed.{Placed, Places, strip}
use Rattle.engine.specs.Marks.{Marking, keep}
use Rattle.engine.specs.Beside.{◌next◌, joined_placed}
use Rattle.engine.specs.Agenda.{resume_at}
use Rattle.engine.specs.Stack.{Equivalent}
use Rattle.theory.specs.JoiningOne.{joining_one}
use Rattle.theory.proofs.Laws.{laws}

pub keep_can : (m : Marking) (d : Placed) → Can (strip d) → Can (strip (keep m d))
keep_can = Rattle.modes_by_marks.proofs.Joined.keep_can laws

abbrev pub Joins : (a b j : Placed) → Type 0
Joins = Rattle.modes_by_marks.proofs.Joined.Joins joining_one

pub joined_is : (a b j : Placed) → joined_placed a b ≡ some j → Joins a b j
joined_is = Rattle.modes_by_marks.proofs.Joined.joined_is joining_one

pub joined_same : (g h k : Graph) (X Y : Ctx) → Canonical g → Canonical h → AllCanonical X → AllCanonical Y → join (g ∷ h ∷ []) ≡ some k →
    Equivalent ((g ∷ X) ++ h ∷ Y) (k ∷ (X ++ Y))
joined_same = Rattle.modes_by_marks.proofs.Joined.joined_same laws

pub resume_at_after : (m : Marking) → (ds : Places) (fs gs : List Places) (S : Ctx) → ((T : Ctx) → resume_at m fs T ≡ resume_at m gs T) →
    resume_at m (ds ∷ fs) S ≡ resume_at m (ds ∷ gs) S
resume_at_after = Rattle.modes_by_marks.proofs.Joined.resume_at_after joining_one

pub resume_at_next : (m : Marking) → (ds es : Places) (fs : List Places) (S : Ctx) →
    resume_at m ((ds next es) ∷ fs) S ≡ resume_at m (ds ∷ es ∷ fs) S
resume_at_next = Rattle.modes_by_marks.proofs.Joined.resume_at_next joining_one
