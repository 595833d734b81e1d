-- The quick step by marks: "1, quick" with alternatives dropped and none folded. Of a stack of graphs one thing is asked, whether they
-- agree.
-- Assumes nothing: these are definitions.
use Rattle.std.specs.Prelude.{◌≡◌, true, false, List, [], ◌∷◌, ◌++◌, ℕ, zero, suc, eqb}
use Rattle.std.proofs.Math.Option.{Option, none, some}
use Rattle.descriptions.specs.Descr.{agree}
use Rattle.descriptions.specs.Remnant.{remnant, nothing, alone, several}
use Rattle.descriptions.specs.Modes.{size}
use Rattle.modes_by_marks.specs.Placed.{Options, Placed, Places, ◌also◌, no_more, option, place, stop, strip}
use Rattle.modes_by_marks.specs.Marks.{Marking, all_kept, drop, keep, kept_of, left_by}
use Rattle.modes_by_marks.specs.Certain.{certain, certain_any}
use Rattle.descriptions.specs.Joining.{Joining}

-- what a step comes to: it fails, or it stands with these graphs pushed. The marks are as the step leaves them; those inside an
-- alternative that failed are of no account
pub data Step (Graph : Type 0) : Type 0 where
  fails : Marking → Step Graph
  stands : List Graph → Marking → Step Graph

module _ {Graph : Type 0} where
  -- the marks after the alternative numbered x was tried and all that was pushed for it taken back: "drop those that fail, and keep
  -- the others in their tidied form"
  abbrev pub tried : ℕ → Step Graph → Marking
  tried x (fails n) = drop x n
  tried x (stands T n) = n

module _ {Graph : Type 0} (J : Joining Graph) where
  open J use {join}

  -- after the alternatives of a disjunction were tried. "A disjunction with none left fails the description. One with exactly one left
  -- is folded": all that is certain in it is pushed, and a clash fails
  abbrev pub settle_at : List Graph → Marking → Options Graph → Step Graph
  settle_at S m a = elim (remnant (kept_of m a)) [
    | nothing ↦ fails m
    | alone ↦ elim (agree J (S ++ certain_any m a)) [ false ↦ fails m | true ↦ stands (S ++ certain_any m a) m ]
    | several ↦ stands S m
  ]

  unfoldable mutual
    -- "To tidy a description under a condition: join condition and definite graph; a clash means it fails." The condition is the stack
    pub try_at : List Graph → Marking → Placed Graph → Step Graph
    try_at S m (place g ds) =
        elim (agree J (S ++ g ∷ certain m ds)) [ false ↦ fails m | true ↦ narrow_at (S ++ g ∷ certain m ds) m ds ]

    -- the disjunctions in order
    pub narrow_at : List Graph → Marking → Places Graph → Step Graph
    narrow_at S m stop = stands S m
    narrow_at S m (a also ds) = elim (any_at S m a) [ fails n ↦ fails n | stands T n ↦ narrow_at T n ds ]

    -- one disjunction: an alternative that stands alone is on the stack already
    pub any_at : List Graph → Marking → Options Graph → Step Graph
    any_at S m no_more = fails m
    any_at S m (option x d a) = elim (m x) [
      | false ↦ any_at S m a
      | true ↦ elim (remnant (suc (kept_of m a))) [
        | nothing ↦ fails m
        | alone ↦ inside_at S m d
        | several ↦ settle_at S (sift_at S (tried x (try_at S m d)) a) (option x d a)
      ]
    ]

    -- the disjunctions of the one that stands alone: they "take its place in the list"
    pub inside_at : List Graph → Marking → Placed Graph → Step Graph
    inside_at S m (place g ds) = narrow_at S m ds

    -- "tidy each alternative under that join"
    pub sift_at : List Graph → Marking → Options Graph → Marking
    sift_at S m no_more = m
    sift_at S m (option x d a) = elim (m x) [ false ↦ sift_at S m a | true ↦ sift_at S (tried x (try_at S m d)) a ]

  -- passes until nothing is dropped; the first argument bounds their number
  unfoldable pub passes_at : ℕ → Marking → Placed Graph → Option Marking
  passes_at zero m d = some m
  passes_at (suc n) m d = elim (try_at [] m d) [
    | fails k ↦ none
    | stands T k ↦ elim (eqb (size (strip (keep k d))) (size (strip (keep m d)))) [ true ↦ some k | false ↦ passes_at n k d ]
  ]

  -- "Take the joined description and tidy it under the graph that says nothing": the marks that mode 1 leaves on it
  unfoldable pub quick_at : Placed Graph → Option Marking
  quick_at d = passes_at (size (strip d)) all_kept d

  -- these marks leave what the quick step leaves; the marks inside a dropped alternative are free
  abbrev pub Leaves : Placed Graph → Marking → Type 0
  Leaves d m = left_by d (quick_at d) ≡ some (strip (keep m d))
