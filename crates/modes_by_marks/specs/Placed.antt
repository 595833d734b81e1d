-- Descriptions in which each alternative has a number: the place where it stands. Marks are kept by that number.
-- Assumes nothing: these are definitions.
use Rattle.std.specs.Prelude.{ℕ}
use Rattle.descriptions.specs.Descr.{Alts, Desc, Disjs, ◌and◌, ◌or◌, desc, end, fail}

-- "A description is a definite graph and a list of disjunctions; a disjunction is a list of two or more alternatives, each a
-- description." `option x d a` is the alternative d, numbered x, before those of a.
mutual
  pub data Placed (Graph : Type 0) : Type 0 where
    place : Graph → Places Graph → Placed Graph

  pub data Places (Graph : Type 0) : Type 0 where
    stop : Places Graph
    ◌also◌ : Options Graph → Places Graph → Places Graph

  pub data Options (Graph : Type 0) : Type 0 where
    no_more : Options Graph
    option : ℕ → Placed Graph → Options Graph → Options Graph

infixr 5 ◌also◌
module _ {Graph : Type 0} where
  -- the definite graph, and the disjunctions
  abbrev pub own : Placed Graph → Graph
  own (place g ds) = g

  abbrev pub inner : Placed Graph → Places Graph
  inner (place g ds) = ds

  -- the description, without the numbers
  abbrev mutual
    pub strip : Placed Graph → Desc Graph
    strip (place g ds) = desc g (strip_all ds)

    pub strip_all : Places Graph → Disjs Graph
    strip_all stop = end
    strip_all (a also ds) = strip_any a and strip_all ds

    pub strip_any : Options Graph → Alts Graph
    strip_any no_more = fail
    strip_any (option x d a) = strip d or strip_any a
