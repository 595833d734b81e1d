-- The table of numbers as a program, so that cases compute: `unified` gives exactly what the rules give (`table`).
-- Assumes nothing: these are definitions.
use Rattle.std.proofs.Math.Option.{Option}
use Rattle.std.specs.Prelude.{ℕ}
use Rattle.theory.specs.Descr.{Desc}
use Rattle.theory.specs.Answer.{Answer, Call}
use Rattle.theory.specs.LayoutOne.{layout_one}
use Rattle.theory.specs.JoiningOne.{joining_one}

abbrev pub deliver : ℕ → ℕ → Desc → Answer
deliver = Rattle.descriptions.specs.Unified.deliver layout_one

abbrev pub deliver_or : ℕ → ℕ → ℕ → Option Desc → Answer
deliver_or = Rattle.descriptions.specs.Unified.deliver_or layout_one

abbrev pub complete : ℕ → Desc → Desc → Answer
complete = Rattle.descriptions.specs.Unified.complete joining_one layout_one

abbrev pub in_mode : ℕ → Desc → Desc → ℕ → Answer
in_mode = Rattle.descriptions.specs.Unified.in_mode joining_one layout_one

abbrev pub unified : Call → ℕ → ℕ → Answer
unified = Rattle.descriptions.specs.Unified.unified joining_one layout_one
