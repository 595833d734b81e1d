-- What is left of a disjunction: how many of its alternatives are kept, and which is the first.
-- Assumes nothing: these are definitions.
use Rattle.std.specs.Prelude.{ℕ, ◌≡◌, true, false, List}
use Rattle.area.specs.Region.{loaded_words}
use Rattle.descriptions.specs.Remnant.{remnant, nothing, alone, several}
use Rattle.engine.specs.Placed.{Options, no_more, option}
use Rattle.engine.specs.Marks.{Marking, kept_of}
use Rattle.loading.specs.At.{AtAny}
use Rattle.marks.specs.Marked.{marking}
use Rattle.marks.specs.Readable.{Alternatives}
use Rattle.marks.specs.declared.tally.Remnant.{Remnant}
use Rattle.marks.specs.declared.tally.Remnant.TheVariants.{Nothing, One, Several}

-- the alternatives from the first kept one on
abbrev pub from_kept : Marking → Options → Options
from_kept m no_more = no_more
from_kept m (option x d a) = elim (m x) [ true ↦ option x d a | false ↦ from_kept m a ]

-- what is left of a disjunction of which as many alternatives are kept, the first of them at `first`
unfoldable pub remnant_of : (kept first : ℕ) → Remnant
remnant_of kept first = elim (remnant kept) [ nothing ↦ Nothing | alone ↦ One first | several ↦ Several kept ]

-- `which` is what is left of these alternatives, those from the first kept one on stand at `first`, and all end at `after`
pub record Tallied (w : List ℕ) {p count : ℕ} (s : Alternatives w p count) (which : Remnant) (after : ℕ) : Type 0 where
  pub first : ℕ
  pub first_is : (k : ℕ) × AtAny (loaded_words w) first k (from_kept (marking w) s.lies.a) s.lies.end s.lies.to
  pub remnant_is : which ≡ remnant_of (kept_of (marking w) s.lies.a) first
  pub after_is : after ≡ s.lies.end
