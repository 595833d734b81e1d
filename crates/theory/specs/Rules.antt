-- The table of numbers, rule by rule: which answer is given, exactly when.
-- Assumes nothing: these are definitions.
use Rattle.std.proofs.Math.Option.{Option}
use Rattle.std.specs.Prelude.{ℕ}
use Rattle.theory.specs.Descr.{Desc}
use Rattle.theory.specs.Answer.{Answer, Call}
use Rattle.theory.specs.LayoutOne.{layout_one}
use Rattle.theory.specs.JoiningOne.{joining_one}
pub use Rattle.descriptions.specs.Rules.{one, two, three, four, five, six, ten, seven, eleven, eight, done}

abbrev pub mode_result : ℕ → Desc → Desc → Option Desc
mode_result = Rattle.descriptions.specs.Rules.mode_result joining_one

abbrev pub mode_readings : ℕ → Desc → Desc → ℕ
mode_readings = Rattle.descriptions.specs.Rules.mode_readings joining_one

abbrev pub Accepted : (c : Call) (work : ℕ) (d e : Desc) → Type 0
Accepted = Rattle.descriptions.specs.Rules.Accepted layout_one

abbrev pub Clashes : ℕ → Desc → Desc → Type 0
Clashes = Rattle.descriptions.specs.Rules.Clashes joining_one

abbrev pub TooMany : ℕ → Desc → Desc → Type 0
TooMany = Rattle.descriptions.specs.Rules.TooMany joining_one

abbrev pub Given : (c : Call) (room work : ℕ) → Answer → Type 0
Given = Rattle.descriptions.specs.Rules.Given joining_one layout_one
