-- The numbers of the alternatives in the order of the words, and that no two alternatives have one number.
-- Assumes nothing: these are definitions.
use mathlib.Core.List.{List, [], ◌∷◌, ◌++◌, Memᴰ}
use Rattle.std.specs.Prelude.{ℕ}
use Rattle.modes_by_marks.specs.Placed.{Options, Placed, Places, ◌also◌, no_more, option, place, stop}

-- two lists of numbers have none in common
abbrev pub Apart : List ℕ → List ℕ → Type 0
Apart l m = (y : ℕ) → Memᴰ y l → Memᴰ y m → ⊥

module _ {Graph : Type 0} where
  -- the numbers, in the order of the words
  abbrev mutual
    pub names : Placed Graph → List ℕ
    names (place g ds) = names_all ds

    pub names_all : Places Graph → List ℕ
    names_all stop = []
    names_all (a also ds) = names_any a ++ names_all ds

    pub names_any : Options Graph → List ℕ
    names_any no_more = []
    names_any (option x d a) = x ∷ (names d ++ names_any a)

  -- no two alternatives have one number
  abbrev mutual
    pub Distinct : Placed Graph → Type 0
    Distinct (place g ds) = DistinctAll ds

    pub DistinctAll : Places Graph → Type 0
    DistinctAll stop = Unit {0}
    DistinctAll (a also ds) = DistinctAny a × DistinctAll ds × Apart (names_any a) (names_all ds)

    pub DistinctAny : Options Graph → Type 0
    DistinctAny no_more = Unit {0}
    DistinctAny (option x d a) = Distinct d × DistinctAny a × Apart (x ∷ []) (names d) × Apart (x ∷ []) (names_any a)
        × Apart (names d) (names_any a)
