-- The search by its agenda. Each law is one return of an engine: first on a description of which all is kept, then by marks.
-- Assumes nothing.
use mathlib.Core.Path.{◌≡◌}
use mathlib.Core.Bool.{true, false}
use mathlib.Core.List.{List, [], ◌∷◌, ◌++◌}
use Prim.Native.Nat.{ℕ}
use Rattle.theory.specs.Net.{Graph}
use Rattle.theory.specs.Descr.{agree}
use Rattle.theory.specs.Canonical.{Ctx}
use Rattle.engine.specs.Placed.{Placed, place, Places, stop, ◌also◌, Options, no_more, option}
use Rattle.engine.specs.Marks.{Marking}
use Rattle.engine.specs.Certain.{certain}
use Rattle.engine.specs.Search.{Found, taking}
use Rattle.engine.specs.Agenda.{resume_at, dive_at, each_at}
use Rattle.theory.specs.JoiningOne.{joining_one}

pub resume_at_leaf : (m : Marking) → (S : Ctx) → resume_at m [] S ≡ [] ∷ []
resume_at_leaf = Rattle.modes_by_marks.proofs.Agenda.resume_at_leaf joining_one

pub resume_at_stop : (m : Marking) → (fs : List Places) (S : Ctx) → resume_at m (stop ∷ fs) S ≡ resume_at m fs S
resume_at_stop = Rattle.modes_by_marks.proofs.Agenda.resume_at_stop joining_one

abbrev pub choose_at : (m : Marking) → Ctx → Options → List Places → Found
choose_at = Rattle.modes_by_marks.proofs.Agenda.choose_at joining_one

pub resume_at_more : (m : Marking) → (a : Options) (ds : Places) (fs : List Places) (S : Ctx) →
    resume_at m ((a also ds) ∷ fs) S ≡ choose_at m S a (ds ∷ fs)
resume_at_more = Rattle.modes_by_marks.proofs.Agenda.resume_at_more joining_one

pub choose_at_none : (m : Marking) → (S : Ctx) (fs : List Places) → choose_at m S no_more fs ≡ []
choose_at_none = Rattle.modes_by_marks.proofs.Agenda.choose_at_none joining_one

pub each_at_dropped : (m : Marking) (S : Ctx) (x : ℕ) (a : Options) (fs : List Places) → (d : Placed) → m x ≡ false →
    each_at m S (option x d a) fs ≡ each_at m S a fs
each_at_dropped = Rattle.modes_by_marks.proofs.Agenda.each_at_dropped joining_one

pub each_at_kept : (m : Marking) (S : Ctx) (x : ℕ) (a : Options) (fs : List Places) → (d : Placed) → m x ≡ true →
    each_at m S (option x d a) fs ≡ taking x (dive_at m S d fs) ++ each_at m S a fs
each_at_kept = Rattle.modes_by_marks.proofs.Agenda.each_at_kept joining_one

pub each_at_none : (m : Marking) → (S : Ctx) (fs : List Places) → each_at m S no_more fs ≡ []
each_at_none = Rattle.modes_by_marks.proofs.Agenda.each_at_none joining_one

pub dive_at_clash : (m : Marking) → (S : Ctx) (g : Graph) (es : Places) (fs : List Places) → agree (S ++ g ∷ certain m es) ≡ false →
    dive_at m S (place g es) fs ≡ []
dive_at_clash = Rattle.modes_by_marks.proofs.Agenda.dive_at_clash joining_one

pub dive_at_push : (m : Marking) → (S : Ctx) (g : Graph) (es : Places) (fs : List Places) → agree (S ++ g ∷ certain m es) ≡ true →
    dive_at m S (place g es) fs ≡ resume_at m (es ∷ fs) (S ++ g ∷ certain m es)
dive_at_push = Rattle.modes_by_marks.proofs.Agenda.dive_at_push joining_one
