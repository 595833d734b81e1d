-- The number of choices is the length of the list of choices, and the capped count is its minimum with 4,097.
-- Assumes nothing.
use Prim.Native.Nat.{◌≤◌}
use Rattle.theory.specs.Descr.{Desc, number, readings}
use Rattle.theory.specs.JoiningOne.{joining_one}

pub readings_number : (d : Desc) → readings d ≤ number d
readings_number = Rattle.descriptions.proofs.Counting.readings_number joining_one
