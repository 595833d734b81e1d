-- What each part of a formula gives, before anything is left out.
-- Assumes nothing: these are definitions.
use Rattle.std.specs.Prelude.{List, [], ◌∷◌, ◌++◌}
use Rattle.formulas.specs.Formula.{Path, Formula, nil, top, atom, at, same, all, any, Formulas, one, ◌also◌}
use Rattle.formulas.specs.Part.{Fact, reach, bears, share}

-- a description with the facts of its definite part in the place of a graph
mutual
  pub data Draft : Type 0 where
    draft : List Fact → Splits → Draft

  pub data Splits : Type 0 where
    done : Splits
    ◌beside◌ : Sides → Splits → Splits

  pub data Sides : Type 0 where
    out : Sides
    ◌versus◌ : Draft → Sides → Sides

infixr 5 ◌beside◌
infixr 6 ◌versus◌
infixr 5 ◌then◌
abbrev pub ◌then◌ : Splits → Splits → Splits
done then es = es
(a beside ds) then es = a beside (ds then es)

-- the node at the end of the path p is that at the end of each of the paths ps, which start at the end of π
abbrev pub shares : Path → Path → List Path → List Fact
shares π p [] = []
shares π p (q ∷ ps) = share p (π ++ q) ∷ shares π p ps

-- the definite part in which φ stands at the end of the path π. "Paths under `f1:` start there, so they are expanded to the root"; "`f1:`
-- gives its arc where it stands"; a disjunction gives nothing to it. TOP, "inconsistent information", is a node with two atoms
abbrev mutual
  pub facts : Path → Formula → List Fact
  facts π nil = []
  facts π top = bears π 0 ∷ bears π 1 ∷ []
  facts π (atom a) = bears π a ∷ []
  facts π (at f φ) = reach (π ++ f ∷ []) ∷ facts (π ++ f ∷ []) φ
  facts π (same p ps) = reach (π ++ p) ∷ shares π (π ++ p) ps
  facts π (all φ φs) = facts π φ ++ facts_all π φs
  facts π (any φ φs) = []

  pub facts_all : Path → Formulas → List Fact
  facts_all π (one φ) = facts π φ
  facts_all π (φ also φs) = facts π φ ++ facts_all π φs

-- "disjunctions and alternatives keep the order and nesting of the text"; "`f1:` gives its arc … before a disjunction, in each
-- alternative within it too": π is what stands before, and an alternative begins with its arcs
abbrev mutual
  pub splits : Path → Formula → Splits
  splits π nil = done
  splits π top = done
  splits π (atom a) = done
  splits π (at f φ) = splits (π ++ f ∷ []) φ
  splits π (same p ps) = done
  splits π (all φ φs) = splits π φ then splits_all π φs
  splits π (any φ φs) = (draft (reach π ∷ facts π φ) (splits π φ) versus sides π φs) beside done

  pub splits_all : Path → Formulas → Splits
  splits_all π (one φ) = splits π φ
  splits_all π (φ also φs) = splits π φ then splits_all π φs

  pub sides : Path → Formulas → Sides
  sides π (one φ) = draft (reach π ∷ facts π φ) (splits π φ) versus out
  sides π (φ also φs) = draft (reach π ∷ facts π φ) (splits π φ) versus sides π φs

abbrev pub drafted : Formula → Draft
drafted φ = draft (facts [] φ) (splits [] φ)
