-- Descriptions that can be folded: all that is certain agrees, at every depth.
-- Assumes nothing: these are definitions.
use Rattle.descriptions.specs.Joining.{Joining}
use Rattle.descriptions.specs.Descr.{Alts, Desc, Disjs, ◌and◌, ◌or◌, desc, end, fail}
use Rattle.descriptions.specs.Modes.{Glues}
use Rattle.modes_by_marks.specs.Certain.{sure}

module _ {Graph : Type 0} (J : Joining Graph) where
  -- every description in d, at any depth, can be folded
  abbrev mutual
    pub Sane : Desc Graph → Type 0
    Sane (desc g ds) = Glues J g (sure ds) × SaneAll ds

    pub SaneAll : Disjs Graph → Type 0
    SaneAll end = Unit {0}
    SaneAll (a and ds) = SaneAny a × SaneAll ds

    pub SaneAny : Alts Graph → Type 0
    SaneAny fail = Unit {0}
    SaneAny (d or a) = Sane d × SaneAny a
