-- What putting out a description asks, and what then stands in the result.
-- Assumes nothing: these are definitions.
use Rattle.std.specs.Prelude.{ℕ, ◌+◌, ◌≤◌, ◌<◌, ◌≡◌, List, [], length, get_or}
use Rattle.theory.specs.Net.{Graph}
use Rattle.theory.specs.Modes.{glue}
use Rattle.theory.specs.Descr.{Desc, desc, Disjs, disjs, end, ◌and◌}
use Rattle.theory.specs.Layout.{disjs_words, alts_words}
use Rattle.theory.specs.Layout as layout
use Rattle.theory.specs.Canonical.{Can, CanAll, CanAny}
use Rattle.area.specs.Map.{WORDS, RESULT, LONGEST}
use Rattle.layout.specs.Standing.{Stands, graph_words}
use Rattle.engine.specs.Placed.{Placed, place, Places, Options, strip, strip_all, strip_any}
use Rattle.engine.specs.Marks.{Marking, keep, keep_all, keep_any}
use Rattle.engine.specs.Certain.{sure}
use Rattle.engine.specs.Shown.{or_else, shown, shown_all, shown_any}
use Rattle.engine.specs.Sane.{Sane, SaneAll, SaneAny}
use Rattle.loading.specs.Lying.{Lying, LyingAny}
use Rattle.classes.specs.Holds.{Holds}
use Rattle.entering.specs.Taken.{AmongOf, AmongAnyOf}
use Rattle.entering.specs.Footing.{Footing}

-- w' is w with the words xs in the result from o up to r, and nothing is pushed; before the loaded words anything may have changed
pub record Written (n : ℕ) (w : List ℕ) (o : ℕ) (xs : List ℕ) (r : ℕ) (w' : List ℕ) : Type 0 where
  pub len : length w' ≡ length w
  pub mid : (j : ℕ) → WORDS ≤ j → j < RESULT + o → get_or w' j 0 ≡ get_or w j 0
  pub high : (j : ℕ) → RESULT + r ≤ j → get_or w' j 0 ≡ get_or w j 0
  pub stands : Stands w' (RESULT + o) xs (RESULT + r)
  pub holds : Holds n [] 0 w'

-- nothing is pushed
abbrev pub Base : (n : ℕ) (w : List ℕ) → Type 0
Base n w = Footing n 0 w []

-- ---- a description
-- all that is certain in what is left of it agrees, at every depth, and there is room for it
pub record Describing (n : ℕ) (w : List ℕ) (g left o : ℕ) : Type 0 where
  pub base : Base n w
  pub lies : Lying n base.t g left
  pub among : AmongOf base.U lies
  pub can : Can (strip (keep base.m lies.d))
  pub sane : Sane (strip (keep base.m lies.d))
  pub room : o + length (layout.words (shown (strip (keep base.m lies.d)))) ≤ LONGEST

-- what is left of it stands in the result
abbrev pub Describes : (n : ℕ) (w : List ℕ) (g left o r : ℕ) (w' : List ℕ) → Type 0
Describes n w g left o r w' = (c : Describing n w g left o) →
    Written n w o (layout.words (shown (strip (keep c.base.m c.lies.d)))) r w'

-- "its graph is joined to the definite graph": engine's `shown` has this graph
abbrev pub lead : Desc → Graph
lead (desc g ds) = or_else g (glue g (sure ds))

abbrev pub LeadPut : (n : ℕ) (w : List ℕ) (g left o r : ℕ) (w' : List ℕ) → Type 0
LeadPut n w g left o r w' = (c : Describing n w g left o) →
    Written n w o (graph_words (lead (strip (keep c.base.m c.lies.d)))) r w'

-- ---- its disjunctions
abbrev pub later : Placed → Places
later (place g ds) = ds

abbrev pub left_all : Marking → Placed → Disjs
left_all m d = strip_all (keep_all m (later d))

pub record Disjoining (n : ℕ) (w : List ℕ) (g left o : ℕ) : Type 0 where
  pub base : Base n w
  pub lies : Lying n base.t g left
  pub among : AmongOf base.U lies
  pub can : CanAll (left_all base.m lies.d)
  pub sane : SaneAll (left_all base.m lies.d)
  pub room : o + length (disjs_words (shown_all (left_all base.m lies.d))) ≤ LONGEST

-- they stand in the result, and are so many
abbrev pub Disjoins : (n : ℕ) (w : List ℕ) (g left o r count : ℕ) (w' : List ℕ) → Type 0
Disjoins n w g left o r count w' =
    (c : Disjoining n w g left o) →
    Written n w o (disjs_words (shown_all (left_all c.base.m c.lies.d))) r w'
    × (count ≡ disjs (shown_all (left_all c.base.m c.lies.d)))

-- ---- the alternatives of one disjunction
-- "One with exactly one left is folded": what is left of a disjunction, as disjunctions
abbrev pub folded : Marking → Options → Disjs
folded m a = shown_all (strip_any (keep_any m a) and end)

pub record Varying (n : ℕ) (w : List ℕ) (p of left o : ℕ) : Type 0 where
  pub base : Base n w
  pub lies : LyingAny n base.t p of left
  pub among : AmongAnyOf base.U lies
  pub can : CanAny (strip_any (keep_any base.m lies.a))
  pub sane : SaneAny (strip_any (keep_any base.m lies.a))
  pub room : o + length (disjs_words (folded base.m lies.a)) ≤ LONGEST

-- they stand in the result and are so many, and the alternatives end at `after`
abbrev pub Varies : (n : ℕ) (w : List ℕ) (p of left o r count after : ℕ) (w' : List ℕ) → Type 0
Varies n w p of left o r count after w' =
    (c : Varying n w p of left o) →
    Written n w o (disjs_words (folded c.base.m c.lies.a)) r w' × (count ≡ disjs (folded c.base.m c.lies.a))
    × (after ≡ c.lies.end)

pub record Offering (n : ℕ) (w : List ℕ) (p of left o : ℕ) : Type 0 where
  pub base : Base n w
  pub lies : LyingAny n base.t p of left
  pub among : AmongAnyOf base.U lies
  pub can : CanAny (strip_any (keep_any base.m lies.a))
  pub sane : SaneAny (strip_any (keep_any base.m lies.a))
  pub room : o + length (alts_words (shown_any (strip_any (keep_any base.m lies.a)))) ≤ LONGEST

-- each kept one stands in the result
abbrev pub Offers : (n : ℕ) (w : List ℕ) (p of left o r : ℕ) (w' : List ℕ) → Type 0
Offers n w p of left o r w' = (c : Offering n w p of left o) →
    Written n w o (alts_words (shown_any (strip_any (keep_any c.base.m c.lies.a)))) r w'
