-- `unified` gives exactly the answers of the table, one for each input.
-- Assumes nothing.
use mathlib.Core.Path.{◌≡◌}
use mathlib.Core.Option.{Option}
use lib.ListN.{length}
use Rattle.theory.specs.Descr.{Desc}
use Rattle.theory.specs.Modes.{full}
use Rattle.theory.specs.Answer.{Call}
use Rattle.theory.specs.Outcome.{Areas, Outcome, Row}
use Rattle.theory.specs.Unified.{unified}
use Rattle.theory.proofs.Reading.{reads}
use Rattle.theory.specs.LayoutOne.{layout_one}
use Rattle.theory.specs.JoiningOne.{joining_one}

abbrev pub FullView : (d e : Desc) → Option Desc → Type 0
FullView = Rattle.descriptions.proofs.Table.FullView joining_one

pub full_view : (d e : Desc) → FullView d e (full d e)
full_view = Rattle.descriptions.proofs.Table.full_view joining_one layout_one

pub outcome_answer : (c : Call) (before : Areas) (r : Row) (after : Areas) (p : Outcome c before r after) →
    unified c (length before.result) (length before.working) ≡ p.answer
outcome_answer = Rattle.descriptions.proofs.Table.outcome_answer reads
