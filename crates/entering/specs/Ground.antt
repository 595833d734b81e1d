-- The graphs that lie in the loaded words, any of which may be pushed where it is not yet.
-- Assumes nothing: these are definitions.
use Rattle.std.specs.Prelude.{ℕ, ◌<◌, ◌≡◌}
use mathlib.Core.List.{List, Memᴰ}
use Rattle.theory.specs.Net.{Canonical}
use Rattle.area.specs.Region.{loaded_words}
use Rattle.loading.specs.Entry.{Entry}
use Rattle.packing.specs.Packed.{number_step}
use Rattle.classes.specs.Entry.{Comes}
use Rattle.classes.specs.Holds.{Holds}
use Rattle.entering.specs.Taken.{Inside}

-- the graphs U lie in the words t, their nodes numbered below n
pub record Ground (n : ℕ) (t : List ℕ) (U : List Entry) : Type 0 where
  pub few : n < number_step
  pub canonical : (x : Entry) → Memᴰ x U → Canonical x.graph
  pub comes : (w : List ℕ) (es : List Entry) (k : ℕ) → loaded_words w ≡ t → Holds n es k w → Inside U es → (x : Entry) →
      Memᴰ x U → ((o : Entry) → Memᴰ o es → x.number ≡ o.number → ⊥) → Comes n es x w
