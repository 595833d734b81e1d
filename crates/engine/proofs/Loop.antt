-- The quick step as a loop that leaves its stack standing and ends at a pass that drops nothing. Each law is one return of an engine.
-- Assumes nothing.
use mathlib.Core.Path.{◌≡◌}
use mathlib.Core.Option.{none}
use mathlib.Core.List.{◌∷◌, Memᴰ}
use Prim.Native.Nat.{ℕ}
use Rattle.theory.specs.Net.{Graph}
use Rattle.theory.specs.Canonical.{Ctx, Can}
use Rattle.theory.proofs.Live.{Agrees}
use Rattle.engine.specs.Placed.{Placed, place, Places, strip}
use Rattle.engine.specs.Marks.{Marking, all_kept}
use Rattle.engine.specs.Certain.{certain}
use Rattle.engine.specs.Quickly.{fails, stands, narrow_at, quick_at, Leaves}
use Rattle.modes_by_marks.specs.Names.{names, Distinct}
use Rattle.engine.specs.Stack.{Equivalent}
use Rattle.theory.proofs.Laws.{laws}

abbrev pub d : (g : Graph) (ds : Places) (c : Can (strip (place g ds))) (w : Distinct (place g ds)) → Placed
d = Rattle.modes_by_marks.proofs.Loop.d laws

abbrev pub Loop : (g : Graph) (ds : Places) (c : Can (strip (place g ds))) (w : Distinct (place g ds)) (T : Ctx) (m : Marking) → Type 0
Loop = Rattle.modes_by_marks.proofs.Loop.Loop laws

pub loop_start : (g : Graph) (ds : Places) (c : Can (strip (place g ds))) (w : Distinct (place g ds)) → (T : Ctx) →
    Equivalent T (g ∷ certain all_kept ds) → Agrees T → Loop g ds c w T all_kept
loop_start = Rattle.modes_by_marks.proofs.Loop.loop_start laws

pub loop_fails : (g : Graph) (ds : Places) (c : Can (strip (place g ds))) (w : Distinct (place g ds)) (T : Ctx) (m : Marking)
    (l : Loop g ds c w T m) → (n : Marking) → narrow_at T m ds ≡ fails n → quick_at (d g ds c w) ≡ none
loop_fails = Rattle.modes_by_marks.proofs.Loop.loop_fails laws

pub loop_pass : (g : Graph) (ds : Places) (c : Can (strip (place g ds))) (w : Distinct (place g ds)) (T : Ctx) (m : Marking)
    (l : Loop g ds c w T m) (U : Ctx) (n : Marking) (e : narrow_at T m ds ≡ stands U n) → Loop g ds c w U n
loop_pass = Rattle.modes_by_marks.proofs.Loop.loop_pass laws

pub loop_still : (g : Graph) (ds : Places) (c : Can (strip (place g ds))) (w : Distinct (place g ds)) (T : Ctx) (m : Marking)
    (l : Loop g ds c w T m) (U : Ctx) (n : Marking) (e : narrow_at T m ds ≡ stands U n) →
    ((y : ℕ) → Memᴰ y (names (place g ds)) → n y ≡ m y) → Leaves (d g ds c w) n
loop_still = Rattle.modes_by_marks.proofs.Loop.loop_still laws
