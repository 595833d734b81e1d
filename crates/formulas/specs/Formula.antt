-- Formulas, as figure 1 of source document 004 prints them, and the structures that satisfy them.
-- Assumes nothing: these are definitions.
use Rattle.std.specs.Prelude.{◌≡◌, ◌⊎◌, List, [], ◌∷◌, ℕ, suc, ◌<◌, max}
use Rattle.theory.specs.Limits.{code_limit}
use Rattle.theory.specs.Structure.{Structure}

-- features one after the other; `<>` is the empty path
abbrev pub Path : Type 0
Path = List ℕ

-- "`NIL`, `TOP`, atoms `a10`, `f1:` before a formula, shared paths `[<f1 f2>,<f3>]`, `&`, `|`": shared paths are one or more, `&` and `|`
-- stand between two or more
mutual
  pub data Formula : Type 0 where
    nil : Formula
    top : Formula
    atom : ℕ → Formula
    at : ℕ → Formula → Formula
    same : Path → List Path → Formula
    all : Formula → Formulas → Formula
    any : Formula → Formulas → Formula

  -- one or more
  pub data Formulas : Type 0 where
    one : Formula → Formulas
    ◌also◌ : Formula → Formulas → Formulas

infixr 5 ◌also◌
-- the path leads from c to d
abbrev pub Leads : (S : Structure) → S.Carrier → Path → S.Carrier → Type 0
Leads S c [] d = c ≡ d
Leads S c (f ∷ p) d = (e : S.Carrier) × S.Goes c f e × Leads S e p d

abbrev pub LeadAll : (S : Structure) → S.Carrier → List Path → S.Carrier → Type 0
LeadAll S c [] d = Unit {0}
LeadAll S c (p ∷ ps) d = Leads S c p d × LeadAll S c ps d

-- 004, figure 1, read at the node c: NIL says nothing, TOP cannot be so, an atom is borne by c, `f:` follows the arc of that feature from
-- c, shared paths lead from c to one node. "`<>` is the node spoken of", here c
abbrev mutual
  pub HoldsAt : (S : Structure) → S.Carrier → Formula → Type 0
  HoldsAt S c nil = Unit {0}
  HoldsAt S c top = ⊥
  HoldsAt S c (atom a) = S.Has c a
  HoldsAt S c (at f φ) = (d : S.Carrier) × S.Goes c f d × HoldsAt S d φ
  HoldsAt S c (same p ps) = (d : S.Carrier) × Leads S c p d × LeadAll S c ps d
  HoldsAt S c (all φ φs) = HoldsAt S c φ × HoldsAll S c φs
  HoldsAt S c (any φ φs) = HoldsAt S c φ ⊎ HoldsAny S c φs

  pub HoldsAll : (S : Structure) → S.Carrier → Formulas → Type 0
  HoldsAll S c (one φ) = HoldsAt S c φ
  HoldsAll S c (φ also φs) = HoldsAt S c φ × HoldsAll S c φs

  pub HoldsAny : (S : Structure) → S.Carrier → Formulas → Type 0
  HoldsAny S c (one φ) = HoldsAt S c φ
  HoldsAny S c (φ also φs) = HoldsAt S c φ ⊎ HoldsAny S c φs

-- "the formula's structures": those whose root satisfies it
abbrev pub Satisfied : Structure → Formula → Type 0
Satisfied S φ = HoldsAt S S.start φ

-- "disjunctions nested in the text"
abbrev mutual
  pub depth : Formula → ℕ
  depth nil = 0
  depth top = 0
  depth (atom a) = 0
  depth (at f φ) = depth φ
  depth (same p ps) = 0
  depth (all φ φs) = max (depth φ) (depths φs)
  depth (any φ φs) = suc (max (depth φ) (depths φs))

  pub depths : Formulas → ℕ
  depths (one φ) = depth φ
  depths (φ also φs) = max (depth φ) (depths φs)

-- "Numbers go to 65,535"
abbrev pub PathFits : Path → Type 0
PathFits [] = Unit {0}
PathFits (f ∷ p) = (f < code_limit) × PathFits p

abbrev pub PathsFit : List Path → Type 0
PathsFit [] = Unit {0}
PathsFit (p ∷ ps) = PathFits p × PathsFit ps

abbrev mutual
  pub FormulaFits : Formula → Type 0
  FormulaFits nil = Unit {0}
  FormulaFits top = Unit {0}
  FormulaFits (atom a) = a < code_limit
  FormulaFits (at f φ) = (f < code_limit) × FormulaFits φ
  FormulaFits (same p ps) = PathFits p × PathsFit ps
  FormulaFits (all φ φs) = FormulaFits φ × FitAll φs
  FormulaFits (any φ φs) = FormulaFits φ × FitAll φs

  pub FitAll : Formulas → Type 0
  FitAll (one φ) = FormulaFits φ
  FitAll (φ also φs) = FormulaFits φ × FitAll φs
