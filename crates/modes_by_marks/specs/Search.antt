-- The full step by marks: a search of the choices, depth first, on a stack of graphs.
-- Assumes nothing: these are definitions.
use Rattle.std.specs.Prelude.{Bool, true, false, ◌||◌, List, [], ◌∷◌, ◌++◌, ℕ, zero, suc, eqb, length}
use Rattle.std.proofs.Math.Option.{Option, none, some}
use Rattle.descriptions.specs.Descr.{Desc, agree, alts}
use Rattle.descriptions.specs.Remnant.{remnant, nothing, alone, several}
use Rattle.modes_by_marks.specs.Placed.{Options, Placed, Places, ◌also◌, no_more, option, place, stop, strip, strip_all, strip_any}
use Rattle.modes_by_marks.specs.Marks.{Marking, keep}
use Rattle.modes_by_marks.specs.Certain.{sure}
use Rattle.descriptions.specs.Joining.{Joining}

-- the consistent choices found, each as the numbers of the alternatives that it takes
abbrev pub Found : Type 0
Found = List (List ℕ)

abbrev pub taking : ℕ → Found → Found
taking x [] = []
taking x (l ∷ f) = (x ∷ l) ∷ taking x f

-- the marks: every alternative on the way to a leaf
abbrev pub among : ℕ → List ℕ → Bool
among x [] = false
among x (y ∷ l) = eqb x y || among x l

abbrev pub lit : Found → Marking
lit [] x = false
lit (l ∷ f) x = among x l || lit f x

module _ {Graph : Type 0} where
  -- "With no disjunctions there is exactly one choice."
  abbrev pub leaf_found : List Graph → Found
  leaf_found S = [] ∷ []

module _ {Graph : Type 0} (J : Joining Graph) where
  -- "A choice takes one alternative of each disjunction and, within it, a choice of that alternative." In the order of the words; k is
  -- what comes after. An alternative is pushed with all that is certain in it; one that stands alone is on the stack already
  unfoldable mutual
    pub dive : List Graph → Placed Graph → (List Graph → Found) → Found
    dive S (place g ds) k = let T = S ++ g ∷ sure (strip_all ds) in elim (agree J T) [ false ↦ [] | true ↦ dive_all T ds k ]

    pub dive_all : List Graph → Places Graph → (List Graph → Found) → Found
    dive_all S stop k = k S
    dive_all S (a also ds) k = dive_any S a (λ T. dive_all T ds k)

    pub dive_any : List Graph → Options Graph → (List Graph → Found) → Found
    dive_any S no_more k = []
    dive_any S (option x d a) k = elim (remnant (suc (alts (strip_any a)))) [
      | nothing ↦ []
      | alone ↦ taking x (dive_in S d k)
      | several ↦ taking x (dive S d k) ++ dive_each S a k
    ]

    pub dive_in : List Graph → Placed Graph → (List Graph → Found) → Found
    dive_in S (place g ds) k = dive_all S ds k

    pub dive_each : List Graph → Options Graph → (List Graph → Found) → Found
    dive_each S no_more k = []
    dive_each S (option x d a) k = taking x (dive S d k) ++ dive_each S a k

  unfoldable pub search : Placed Graph → Found
  search d = dive [] d leaf_found

  -- "mode 2: consistent choices of the joined description"; m are the marks of the quick step
  unfoldable pub full_readings_by : Marking → Placed Graph → ℕ
  full_readings_by m d = length (search (keep m d))

  -- "drop every alternative that stands in no consistent choice of the whole; if there is no consistent choice, clash"
  unfoldable pub full_left : Marking → Placed Graph → Option (Desc Graph)
  full_left m d = elim (length (search (keep m d))) [ zero ↦ none | suc n ↦ some (strip (keep (lit (search (keep m d))) d)) ]
