-- What it is to satisfy a description.
-- Assumes nothing: these are definitions.
use Rattle.std.specs.Prelude.{◌⊎◌}
use Rattle.descriptions.specs.Descr.{Alts, Desc, Disjs, ◌and◌, ◌or◌, desc, end, fail}
use Rattle.descriptions.specs.Structures.{Structures}

module _ {Graph : Type 0} (𝓜 : Structures Graph) where
  open 𝓜 use {Structure, Satisfies}

  -- "A structure satisfies a description when it satisfies its graph and, for each disjunction, at least one alternative."
  module _ (S : Structure) where
    abbrev mutual
      pub Sat : Desc Graph → Type 0
      Sat (desc g ds) = Satisfies S g × SatEach ds

      pub SatEach : Disjs Graph → Type 0
      SatEach end = Unit {0}
      SatEach (a and ds) = SatSome a × SatEach ds

      pub SatSome : Alts Graph → Type 0
      SatSome fail = ⊥
      SatSome (d or a) = Sat d ⊎ SatSome a
