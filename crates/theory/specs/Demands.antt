-- The second and the third demand, of any program with the form of unification.
-- Assumes nothing: these are definitions.
use Rattle.std.proofs.Math.Option.{Option}
use Rattle.std.specs.Prelude.{List, ℕ}
use Rattle.theory.specs.Descr.{Desc}
use Rattle.theory.specs.Answer.{Answer, Call}
use Rattle.theory.specs.LayoutOne.{layout_one}
use Rattle.theory.specs.JoiningOne.{joining_one}
use Rattle.theory.specs.Structure.{structures}
pub use Rattle.descriptions.specs.Demands.{ClashNumber, Unifier}

abbrev pub Demand2 : (U : Unifier) → Type 1
Demand2 = Rattle.descriptions.specs.Demands.Demand2 joining_one structures layout_one

abbrev pub ListCall : Type 0
ListCall = Rattle.descriptions.specs.Demands.ListCall layout_one

abbrev pub start : List ℕ
start = Rattle.descriptions.specs.Demands.start joining_one layout_one

abbrev pub with_words : ℕ → Desc → Desc → Call
with_words = Rattle.descriptions.specs.Demands.with_words layout_one

abbrev pub call : Unifier → List ℕ → ListCall → Answer
call = Rattle.descriptions.specs.Demands.call layout_one

abbrev pub reached : Unifier → List ℕ → List ListCall → Option (List ℕ)
reached = Rattle.descriptions.specs.Demands.reached layout_one

abbrev pub ways : List Desc → ℕ
ways = Rattle.descriptions.specs.Demands.ways joining_one

abbrev pub items : List ListCall → List Desc
items = Rattle.descriptions.specs.Demands.items layout_one

abbrev pub Demand3 : (U : Unifier) → Type 0
Demand3 = Rattle.descriptions.specs.Demands.Demand3 joining_one layout_one
