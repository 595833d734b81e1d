-- Descriptions, their choices and their readings.
-- Assumes nothing: these are definitions.
use Rattle.std.specs.Prelude.{Bool, List, ℕ}
use Rattle.theory.specs.Net.{Graph}
use Rattle.theory.specs.JoiningOne.{joining_one}
pub use Rattle.descriptions.specs.Descr.{definite_graph, desc, end, ◌and◌, fail, ◌or◌, disjs, alts, choices, answers, ◌then◌}
unfoldable pub use Rattle.descriptions.specs.Descr.{number, capped}

abbrev pub Desc : Type 0
Desc = Rattle.descriptions.specs.Descr.Desc Graph

abbrev pub Disjs : Type 0
Disjs = Rattle.descriptions.specs.Descr.Disjs Graph

abbrev pub Alts : Type 0
Alts = Rattle.descriptions.specs.Descr.Alts Graph

abbrev pub agree : List Graph → Bool
agree = Rattle.descriptions.specs.Descr.agree joining_one

abbrev pub agreeing : List (List Graph) → ℕ
agreeing = Rattle.descriptions.specs.Descr.agreeing joining_one

abbrev pub readings : Desc → ℕ
readings = Rattle.descriptions.specs.Descr.readings joining_one
