-- `faults::nesting::expected_after` meets its contract.
-- Assumes nothing.
use native.Mathlib.Omega.{arith}
use Rattle.faults.specs.Coded.{nesting_of}
use Rattle.faults.proofs.Laws.{nesting_depth, bounded_told}
use Rattle.faults.proofs.nesting.expected_after.Goals as goal

pub disjunctions_from-requires : goal.disjunctions_from-requires
disjunctions_from-requires c =
    let nesting = c.args.expected.nesting in
    omega (arith, bounded_told (nesting_of nesting) c.in-DisjunctionCount.is c.requires.0, nesting_depth nesting)
