-- The two inputs placed side by side: mode 0 on placed descriptions.
-- Assumes nothing: these are definitions.
use Rattle.std.proofs.Math.Option.{Option, none, some}
use Rattle.std.specs.Prelude.{[], ◌∷◌}
use Rattle.modes_by_marks.specs.Placed.{Placed, Places, ◌also◌, place, stop}
use Rattle.descriptions.specs.Joining.{Joining}

module _ {Graph : Type 0} where
  -- "The disjunctions are those of the first input, then those of the second, in order."
  infixr 5 ◌next◌
  abbrev pub ◌next◌ : Places Graph → Places Graph → Places Graph
  stop next es = es
  (a also ds) next es = a also (ds next es)

module _ {Graph : Type 0} (J : Joining Graph) where
  open J use {join}

  -- "0, join. The graph is the join of both definite graphs (a clash there is a clash in all modes)."
  abbrev pub joined_placed : Placed Graph → Placed Graph → Option (Placed Graph)
  joined_placed (place g ds) (place h es) = elim (join (g ∷ h ∷ [])) [ none ↦ none | some k ↦ some (place k (ds next es)) ]
