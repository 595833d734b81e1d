-- The description of a formula by numbers of alternatives: what is folded gives its numbers to the description in which it stands, and a
-- description's rows are those of its numbers in the one list. Code works so; `describe_house` says that it comes to the same.
-- Assumes nothing: these are definitions.
use Rattle.std.proofs.Math.Option.{Option, none, some}
use Rattle.std.specs.Prelude.{List, [], ◌∷◌, ◌++◌, ℕ, suc, ◌+◌}
use Rattle.theory.specs.Net.{Graph}
use Rattle.theory.specs.Descr.{Desc, desc, Disjs, end, ◌and◌, Alts, fail, ◌or◌, ◌then◌}
use Rattle.formulas.specs.Sheet.{Sheet, blank_sheet, ◌plus◌, Laid, laid, Rows, over, ◌besides◌, Cells, gone, ◌against◌, sheet_graph}
use Rattle.formulas.specs.Flat.{Item, given_to, wide, wide_cells}

-- what is given to these alternatives
abbrev pub all_picked : List ℕ → List Item → Sheet
all_picked [] L = blank_sheet
all_picked (j ∷ J) L = given_to j L plus all_picked J L

-- a description with its number and those folded into it
pub record Home : Type 0 where
  pub names : List ℕ
  pub graph : Graph
  pub rest : Disjs

abbrev pub home_desc : Home → Desc
home_desc x = desc x.graph x.rest

abbrev pub home_alts : List Home → Alts
home_alts [] = fail
home_alts (x ∷ l) = home_desc x or home_alts l

abbrev pub as_home : Option Home → Option Desc
as_home none = none
as_home (some x) = some (home_desc x)

pub record HandedOver : Type 0 where
  pub names : List ℕ
  pub left : Disjs

abbrev pub handed_over : List Home → HandedOver → Option HandedOver
handed_over [] g = none
handed_over (x ∷ []) g = some (record { names = x.names ++ g.names; left = x.rest then g.left })
handed_over (x ∷ (y ∷ l)) g = some (record { names = g.names; left = home_alts (x ∷ y ∷ l) and g.left })

abbrev pub home_closed : List ℕ → Disjs → Option Graph → Option Home
home_closed J ds none = none
home_closed J ds (some G) = some (record { names = J; graph = G; rest = ds })

abbrev pub home_before : Option Home → List Home → List Home
home_before none l = l
home_before (some x) l = x ∷ l

unfoldable mutual
  pub house : List Item → ℕ → Laid → Option Home
  house L k (laid A ds) =
      elim (house_all L (suc k) ds)
      [ none ↦ none | some g ↦ home_closed (k ∷ g.names) g.left (sheet_graph (A plus all_picked g.names L)) ]

  pub house_all : List Item → ℕ → Rows → Option HandedOver
  house_all L k over = some (record { names = []; left = end })
  house_all L k (a besides ds) = elim (house_all L (k + wide_cells a) ds) [ none ↦ none | some g ↦ handed_over (house_left L k a) g ]

  pub house_left : List Item → ℕ → Cells → List Home
  house_left L k gone = []
  house_left L k (d against a) = home_before (house L k d) (house_left L (suc k + wide d) a)
