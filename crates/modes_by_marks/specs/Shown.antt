-- What is left, as a writer puts it out: all that is certain is joined at once, and the disjunctions of an alternative that stands
-- alone come in its place.
-- Assumes nothing: these are definitions.
use Rattle.std.specs.Prelude.{suc}
use Rattle.std.proofs.Math.Option.{Option, none, some}
use Rattle.descriptions.specs.Descr.{Alts, Desc, Disjs, ◌and◌, ◌or◌, ◌then◌, alts, desc, end, fail}
use Rattle.descriptions.specs.Remnant.{remnant, nothing, alone, several}
use Rattle.descriptions.specs.Modes.{glue}
use Rattle.modes_by_marks.specs.Certain.{sure}
use Rattle.descriptions.specs.Joining.{Joining}

module _ {Graph : Type 0} where
  abbrev pub or_else : Graph → Option Graph → Graph
  or_else g none = g
  or_else g (some k) = k

module _ {Graph : Type 0} (J : Joining Graph) where
  -- "fold all disjunctions with one alternative left, at every depth, in place"
  unfoldable mutual
    pub shown : Desc Graph → Desc Graph
    shown (desc g ds) = desc (or_else g (glue J g (sure ds))) (shown_all ds)

    pub shown_all : Disjs Graph → Disjs Graph
    shown_all end = end
    shown_all (a and ds) = shown_then a (shown_all ds)

    pub shown_then : Alts Graph → Disjs Graph → Disjs Graph
    shown_then fail l = fail and l
    shown_then (d or a) l = elim (remnant (suc (alts a))) [
      | nothing ↦ l
      | alone ↦ shown_in d then l
      | several ↦ (shown d or shown_any a) and l
    ]

    pub shown_in : Desc Graph → Disjs Graph
    shown_in (desc g ds) = shown_all ds

    pub shown_any : Alts Graph → Alts Graph
    shown_any fail = fail
    shown_any (d or a) = shown d or shown_any a
