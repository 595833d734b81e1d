-- The search finds each consistent choice, once and in order.
-- Assumes nothing.
use mathlib.Core.Path.{◌≡◌}
use lib.ListN.{length}
use Rattle.theory.specs.Descr.{readings}
use Rattle.theory.specs.Canonical.{Ctx, Can}
use Rattle.theory.specs.Net.{Graph}
use Rattle.theory.specs.JoiningOne.{joining_one}
use Rattle.engine.specs.Placed.{Placed, place, Places, strip}
use Rattle.engine.specs.Certain.{flat}
use Rattle.engine.specs.Search.{search}
use Rattle.engine.specs.Stack.{Equivalent}
use Rattle.modes_by_marks.proofs.Finding.{picks_all, go_through, leaf_asked}
use Rattle.theory.proofs.Laws.{laws}

pub search_count : (d : Placed) → Can (strip d) → length (search d) ≡ readings (strip d)
search_count = Rattle.modes_by_marks.proofs.Finding.search_count laws

pub search_through : (g : Graph) (ds : Places) → Can (strip (place g ds)) → (S : Ctx) → Equivalent S (flat (strip (place g ds))) →
    search (place g ds) ≡ go_through (picks_all ds) S (leaf_asked joining_one)
search_through = Rattle.modes_by_marks.proofs.Finding.search_through laws
