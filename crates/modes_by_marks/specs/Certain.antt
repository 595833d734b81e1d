-- What is certain: the graphs of a description that every choice of it takes because no other alternative is left beside them.
-- Assumes nothing: these are definitions.
use Rattle.std.specs.Prelude.{suc, List, [], ◌∷◌, ◌++◌}
use Rattle.descriptions.specs.Descr.{Alts, Desc, Disjs, ◌and◌, ◌or◌, alts, desc, end, fail}
use Rattle.descriptions.specs.Remnant.{remnant, nothing, alone, several}
use Rattle.modes_by_marks.specs.Placed.{Options, Places, strip_all, strip_any}
use Rattle.modes_by_marks.specs.Marks.{Marking, keep_all, keep_any}

module _ {Graph : Type 0} where
  -- "One with exactly one left is folded: its graph is joined to the definite graph": a description's own graph, and those of
  -- alternatives that stand alone in it, at every depth
  abbrev mutual
    pub flat : Desc Graph → List Graph
    flat (desc g ds) = g ∷ sure ds

    pub sure : Disjs Graph → List Graph
    sure end = []
    sure (a and ds) = sure_any a ++ sure ds

    pub sure_any : Alts Graph → List Graph
    sure_any fail = []
    sure_any (d or a) = elim (remnant (suc (alts a))) [ nothing ↦ [] | alone ↦ flat d | several ↦ [] ]

  -- by marks: what is pushed after the graph when a description is entered
  abbrev pub certain : Marking → Places Graph → List Graph
  certain m ds = sure (strip_all (keep_all m ds))

  -- and when one alternative is left
  abbrev pub certain_any : Marking → Options Graph → List Graph
  certain_any m a = sure_any (strip_any (keep_any m a))
