-- Descriptions, their choices and their readings.
-- Assumes nothing: these are definitions.
use Rattle.std.specs.Prelude.{Bool, true, false, List, [], ◌∷◌, ◌++◌, ℕ, suc, ◌+◌, ◌*◌, min}
use Rattle.std.proofs.Math.Option.{Option, none, some}
use Rattle.descriptions.specs.Limits.{choice_stop}
use Rattle.descriptions.specs.Joining.{Joining}

-- "A description is a definite graph and a list of disjunctions; a disjunction is a list of two or more alternatives, each a
-- description." That they are two or more is asked in `WellFormed`.
mutual
  pub data Desc (Graph : Type 0) : Type 0 where
    desc : Graph → Disjs Graph → Desc Graph

  pub data Disjs (Graph : Type 0) : Type 0 where
    end : Disjs Graph
    ◌and◌ : Alts Graph → Disjs Graph → Disjs Graph

  pub data Alts (Graph : Type 0) : Type 0 where
    fail : Alts Graph
    ◌or◌ : Desc Graph → Alts Graph → Alts Graph

infixr 5 ◌and◌
infixr 6 ◌or◌
module _ {Graph : Type 0} where
  abbrev pub definite_graph : Desc Graph → Graph
  definite_graph (desc g ds) = g

  abbrev pub disjs : Disjs Graph → ℕ
  disjs end = 0
  disjs (a and ds) = suc (disjs ds)

  abbrev pub alts : Alts Graph → ℕ
  alts fail = 0
  alts (d or a) = suc (alts a)

  -- "A choice (also: a reading) of a description takes one alternative of each disjunction and, within it, a choice of that
  -- alternative. With no disjunctions there is exactly one choice." A choice stands here as the list of the graphs that it takes, the
  -- definite graph first; the list of choices holds one entry for each.
  abbrev pub each : List Graph → List (List Graph) → List (List Graph)
  each c [] = []
  each c (r ∷ l) = (c ++ r) ∷ each c l

  abbrev pub pairs : List (List Graph) → List (List Graph) → List (List Graph)
  pairs [] l = []
  pairs (c ∷ k) l = each c l ++ pairs k l

  abbrev mutual
    pub choices : Desc Graph → List (List Graph)
    choices (desc g ds) = each (g ∷ []) (choices_all ds)

    pub choices_all : Disjs Graph → List (List Graph)
    choices_all end = [] ∷ []
    choices_all (a and ds) = pairs (choices_any a) (choices_all ds)

    pub choices_any : Alts Graph → List (List Graph)
    choices_any fail = []
    choices_any (d or a) = choices d ++ choices_any a

  -- "A choice is consistent when the definite graph and all graphs it takes can be joined."
  abbrev pub answers : Option Graph → Bool
  answers none = false
  answers (some G) = true

  -- "The number of choices of a description is the product over its disjunctions of the sum over their alternatives"
  unfoldable mutual
    pub number : Desc Graph → ℕ
    number (desc g ds) = number_all ds

    pub number_all : Disjs Graph → ℕ
    number_all end = 1
    number_all (a and ds) = number_any a * number_all ds

    pub number_any : Alts Graph → ℕ
    number_any fail = 0
    number_any (d or a) = number d + number_any a

  -- "it is worked out by descent over the nesting, stopping at 4,097"; tied to `number` by `capped_number`
  unfoldable mutual
    pub capped : Desc Graph → ℕ
    capped (desc g ds) = capped_all ds

    pub capped_all : Disjs Graph → ℕ
    capped_all end = 1
    capped_all (a and ds) = min (capped_any a * capped_all ds) choice_stop

    pub capped_any : Alts Graph → ℕ
    capped_any fail = 0
    capped_any (d or a) = min (capped d + capped_any a) choice_stop

  -- "those of the first input, then those of the second, in order"
  infixr 5 ◌then◌
  abbrev pub ◌then◌ : Disjs Graph → Disjs Graph → Disjs Graph
  end then es = es
  (a and ds) then es = a and (ds then es)

module _ {Graph : Type 0} (J : Joining Graph) where
  open J use {join}

  unfoldable pub agree : List Graph → Bool
  agree gs = answers (join gs)

  -- how many of these agree; "two choices with one structure count twice"
  unfoldable pub agreeing : List (List Graph) → ℕ
  agreeing [] = 0
  agreeing (c ∷ l) = elim (agree c) [ true ↦ suc (agreeing l) | false ↦ agreeing l ]

  -- the consistent readings
  unfoldable pub readings : Desc Graph → ℕ
  readings d = agreeing (choices d)
