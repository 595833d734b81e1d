-- The description of a formula.
-- Assumes nothing: these are definitions.
use Rattle.std.proofs.Math.Option.{Option, none, some}
use Rattle.std.specs.Prelude.{[]}
use Rattle.theory.specs.Net.{Graph}
use Rattle.theory.specs.Descr.{Desc, desc, Disjs, end, Alts, fail, ◌or◌}
use Rattle.theory.specs.Modes.{Round, after}
use Rattle.formulas.specs.Formula.{Formula}
use Rattle.formulas.specs.Part.{part_graph}
use Rattle.formulas.specs.Draft.{Draft, draft, Splits, done, ◌beside◌, Sides, out, ◌versus◌, drafted}

-- the definite graph and the disjunctions that are left; a clash of the definite part is a clash
abbrev pub with_graph : Disjs → Option Graph → Option Desc
with_graph ds none = none
with_graph ds (some g) = some (desc g ds)

-- an alternative that is no clash stays before the others
abbrev pub kept_before : Option Desc → Alts → Alts
kept_before none a = a
kept_before (some d) a = d or a

-- "Innermost first, an alternative whose definite part clashes is left out; a disjunction with one left is folded, with none it makes its
-- description a clash": folded, as document 01 has it in `after`, "its graph is joined to the definite graph and its disjunctions take its
-- place in the list"
unfoldable mutual
  pub settle_draft : Draft → Option Desc
  settle_draft (draft F ds) = elim (settle_all ds) [ none ↦ none | some r ↦ with_graph r.left (part_graph F r.folded) ]

  pub settle_all : Splits → Option Round
  settle_all done = some (record { folded = []; left = end })
  settle_all (a beside ds) = elim (settle_all ds) [ none ↦ none | some r ↦ after (left_of a) r ]

  pub left_of : Sides → Alts
  left_of out = fail
  left_of (d versus a) = kept_before (settle_draft d) (left_of a)

-- none: the formula is a clash
abbrev pub describe : Formula → Option Desc
describe φ = settle_draft (drafted φ)
