-- The three modes.
-- Assumes nothing: these are definitions.
use Rattle.std.specs.Prelude.{Bool, List, ℕ}
use Rattle.std.proofs.Math.Option.{Option}
use Rattle.theory.specs.Net.{Graph}
use Rattle.theory.specs.Descr.{Desc, Disjs, Alts}
use Rattle.theory.specs.JoiningOne.{joining_one}
unfoldable pub use Rattle.descriptions.specs.Modes.{size, folded_in}

abbrev pub joined : Desc → Desc → Option Desc
joined = Rattle.descriptions.specs.Modes.joined joining_one

abbrev pub Round : Type 0
Round = Rattle.descriptions.specs.Modes.Round Graph

abbrev pub after : Alts → Round → Option Round
after = Rattle.descriptions.specs.Modes.after joining_one

abbrev pub round : (Desc → Option Desc) → Disjs → Option Round
round = Rattle.descriptions.specs.Modes.round joining_one

abbrev pub finish : (Desc → Option Desc) → Graph → Disjs → List Graph → Option Desc
finish = Rattle.descriptions.specs.Modes.finish joining_one

abbrev pub tidy : ℕ → Graph → Desc → Option Desc
tidy = Rattle.descriptions.specs.Modes.tidy joining_one

abbrev pub quick : Desc → Desc → Option Desc
quick = Rattle.descriptions.specs.Modes.quick joining_one

abbrev pub some_agree : List (List Graph) → Bool
some_agree = Rattle.descriptions.specs.Modes.some_agree joining_one

abbrev pub prune : List (List Graph) → Desc → Desc
prune = Rattle.descriptions.specs.Modes.prune joining_one

abbrev pub glue : Graph → List Graph → Option Graph
glue = Rattle.descriptions.specs.Modes.glue joining_one

abbrev pub fold : Desc → Desc
fold = Rattle.descriptions.specs.Modes.fold joining_one

abbrev pub full : Desc → Desc → Option Desc
full = Rattle.descriptions.specs.Modes.full joining_one
