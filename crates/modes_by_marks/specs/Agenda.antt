-- The search with no function for an argument: what comes after is an agenda, the disjunctions still to go through. Then the same by
-- marks, over the description as it stands.
-- Assumes nothing: these are definitions.
use Rattle.std.specs.Prelude.{List, [], ◌∷◌, map}
use Rattle.modes_by_marks.specs.Placed.{Options, Placed, Places}
use Rattle.modes_by_marks.specs.Marks.{Marking, keep, keep_all, keep_any}
use Rattle.modes_by_marks.specs.Search.{Found, dive, dive_all, dive_each, leaf_found}
use Rattle.descriptions.specs.Joining.{Joining}

module _ {Graph : Type 0} (J : Joining Graph) where
  -- what is found from here on: the disjunctions of each frame in turn, under the stack S
  unfoldable pub resume : List (Places Graph) → List Graph → Found
  resume [] S = leaf_found S
  resume (ds ∷ fs) S = dive_all J S ds (resume fs)

  -- of the frames only the kept alternatives are gone through
  abbrev pub resume_at : Marking → List (Places Graph) → List Graph → Found
  resume_at m fs = resume (map (keep_all m) fs)

  -- an alternative that is pushed
  abbrev pub dive_at : Marking → List Graph → Placed Graph → List (Places Graph) → Found
  dive_at m S d fs = dive J S (keep m d) (resume_at m fs)

  -- each kept alternative of a disjunction
  abbrev pub each_at : Marking → List Graph → Options Graph → List (Places Graph) → Found
  each_at m S a fs = dive_each J S (keep_any m a) (resume_at m fs)
