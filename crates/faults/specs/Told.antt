-- What is told of words: the fault.
-- Assumes nothing: these are definitions.
use Rattle.std.specs.Prelude.{List, ℕ, Option, Some, None}
use Rattle.theory.specs.LayoutOne.{Image}
use Rattle.roles.specs.Faults.{Faulty}
use Rattle.roles.specs.Coded.{cause_of}
use Rattle.faults.specs.declared.verdict.Fault.{Fault}

-- no fault is told of a description; of other words the first one that breaks a rule, and its cause
abbrev pub Told : List ℕ → Option Fault → Type 0
Told ws None = Image ws
Told ws (Some f) = Faulty ws (cause_of f.cause) f.at
