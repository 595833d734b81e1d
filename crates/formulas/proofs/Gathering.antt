-- The description of a formula by facts alone: what is folded gives its facts to the description in which it stands. Code works so;
-- `gather_settle` says that it comes to the same.
-- Assumes nothing: these are definitions.
use mathlib.Core.Option.{Option, none, some}
use mathlib.Core.List.{List, [], ◌∷◌, ◌++◌}
use Rattle.theory.specs.Net.{Graph}
use Rattle.theory.specs.Descr.{Desc, desc, Disjs, end, ◌and◌, Alts, fail, ◌or◌, ◌then◌}
use Rattle.formulas.specs.Part.{Fact, part_graph}
use Rattle.formulas.specs.Draft.{Draft, draft, Splits, done, ◌beside◌, Sides, out, ◌versus◌}

-- a description with the facts of its definite part, those folded into it among them
pub record Gathered : Type 0 where
  pub own : List Fact
  pub graph : Graph
  pub rest : Disjs

abbrev pub as_desc : Gathered → Desc
as_desc x = desc x.graph x.rest

abbrev pub as_alts : List Gathered → Alts
as_alts [] = fail
as_alts (x ∷ l) = as_desc x or as_alts l

abbrev pub gathered_desc : Option Gathered → Option Desc
gathered_desc none = none
gathered_desc (some x) = some (as_desc x)

-- what the disjunctions of a description give: the facts folded, and what is left
pub record Gain : Type 0 where
  pub facts : List Fact
  pub left : Disjs

abbrev pub gained : List Gathered → Gain → Option Gain
gained [] g = none
gained (x ∷ []) g = some (record { facts = x.own ++ g.facts; left = x.rest then g.left })
gained (x ∷ (y ∷ l)) g = some (record { facts = g.facts; left = as_alts (x ∷ y ∷ l) and g.left })

abbrev pub gather_closed : List Fact → Disjs → Option Graph → Option Gathered
gather_closed F ds none = none
gather_closed F ds (some G) = some (record { own = F; graph = G; rest = ds })

abbrev pub put_before : Option Gathered → List Gathered → List Gathered
put_before none l = l
put_before (some x) l = x ∷ l

unfoldable mutual
  pub gather : Draft → Option Gathered
  gather (draft F ds) = elim (gather_all ds) [
    | none ↦ none
    | some g ↦ gather_closed (F ++ g.facts) g.left
        (part_graph (F ++ g.facts) [])
  ]

  pub gather_all : Splits → Option Gain
  gather_all done = some (record { facts = []; left = end })
  gather_all (a beside ds) = elim (gather_all ds) [ none ↦ none | some g ↦ gained (gather_left a) g ]

  pub gather_left : Sides → List Gathered
  gather_left out = []
  gather_left (d versus a) = put_before (gather d) (gather_left a)
