-- The quick step on descriptions: alternatives are dropped and none is folded. What is left may have disjunctions with one
-- alternative: that one counts as folded.
-- Assumes nothing.
use mathlib.Core.Bool.{true, false}
use mathlib.Core.Option.{Option, none, some}
use mathlib.Core.List.{[], ◌∷◌, ◌++◌, List}
use Prim.Native.Nat.{ℕ, zero, suc}
use lib.Dec.{eqb}
use Rattle.descriptions.specs.Descr.{Alts, Desc, Disjs, ◌and◌, ◌or◌, agree, desc, end, fail}
use Rattle.descriptions.specs.Modes.{size}
use Rattle.modes_by_marks.specs.Certain.{flat, sure}
use Rattle.descriptions.specs.Joining.{Joining}

-- a pass that does not fail: the stack as it then stands, and what is left
pub record Left (Graph A : Type 0) : Type 0 where
  pub stack : List Graph
  pub left : A

module _ {Graph : Type 0} (J : Joining Graph) where
  -- the alternatives left of two or more: none fails; a single one is pushed at once, with all that is certain in it
  abbrev pub settle : List Graph → Alts Graph → Option (Left Graph (Alts Graph))
  settle S fail = none
  settle S (d or fail) = elim (agree J (S ++ flat d)) [ false ↦ none | true ↦ some (record { stack = S ++ flat d; left = d or fail }) ]
  settle S (d or (e or b)) = some (record { stack = S; left = d or (e or b) })

  -- one pass. An alternative is tried on the stack: its graph and all that is certain in it are pushed, then its own disjunctions are
  -- gone through, then all of it is taken back
  unfoldable mutual
    pub try : List Graph → Desc Graph → Option (Desc Graph)
    try S (desc g ds) = elim (agree J (S ++ g ∷ sure ds)) [
      | false ↦ none
      | true ↦ elim (narrow (S ++ g ∷ sure ds) ds) [ none ↦ none | some r ↦ some (desc g r.left) ]
    ]

    -- the disjunctions in order
    pub narrow : List Graph → Disjs Graph → Option (Left Graph (Disjs Graph))
    narrow S end = some (record { stack = S; left = end })
    narrow S (a and ds) = elim (narrow_any S a) [
      | none ↦ none
      | some r ↦ elim (narrow r.stack ds) [ none ↦ none | some q ↦ some (record { stack = q.stack; left = r.left and q.left }) ]
    ]

    -- one disjunction: an alternative that stands alone is on the stack already
    pub narrow_any : List Graph → Alts Graph → Option (Left Graph (Alts Graph))
    narrow_any S fail = none
    narrow_any S (d or a) = elim a [
      | fail ↦ elim (inside S d) [
        | none ↦ none
        | some r ↦ some (record { stack = r.stack; left = r.left or fail })
      ]
      | e or b ↦ settle S (elim (try S d) [ none ↦ sift S a | some f ↦ f or sift S a ])
    ]

    pub inside : List Graph → Desc Graph → Option (Left Graph (Desc Graph))
    inside S (desc g ds) = elim (narrow S ds) [ none ↦ none | some r ↦ some (record { stack = r.stack; left = desc g r.left }) ]

    pub sift : List Graph → Alts Graph → Alts Graph
    sift S fail = fail
    sift S (d or a) = elim (try S d) [ none ↦ sift S a | some f ↦ f or sift S a ]

  -- passes until nothing is dropped
  unfoldable pub passes : ℕ → Desc Graph → Option (Desc Graph)
  passes zero d = some d
  passes (suc n) d = elim (try [] d) [ none ↦ none | some e ↦ elim (eqb (size e) (size d)) [ true ↦ some e | false ↦ passes n e ] ]
