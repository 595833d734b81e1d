-- The search sees a stack only by what it joins to. So an engine may push in another order, and may begin with the stack that the
-- quick step leaves standing.
-- Assumes nothing.
use mathlib.Core.Path.{◌≡◌}
use mathlib.Core.List.{[], ◌∷◌}
use Rattle.theory.specs.Net.{Graph}
use Rattle.theory.specs.Canonical.{Ctx, Can}
use Rattle.theory.proofs.Live.{Agrees}
use Rattle.engine.specs.Placed.{place, Places, strip}
use Rattle.engine.specs.Marks.{Marking, keep}
use Rattle.engine.specs.Certain.{certain}
use Rattle.engine.specs.Search.{search}
use Rattle.engine.specs.Agenda.{resume_at}
use Rattle.engine.specs.Stack.{Equivalent}
use Rattle.theory.proofs.Laws.{laws}

pub search_standing : (g : Graph) (ds : Places) (m : Marking) → Can (strip (keep m (place g ds))) → (T : Ctx) →
    Equivalent T (g ∷ certain m ds) →
    Agrees T → search (keep m (place g ds)) ≡ resume_at m (ds ∷ []) T
search_standing = Rattle.modes_by_marks.proofs.SearchStack.search_standing laws
