-- `suite::checks::judged` meets its contract. Assumes nothing.
use native.Mathlib.Omega.{arith}
use Rattle.suite.proofs.Laws.{first_beyond, second_beyond, mode_beyond, number_beyond, none_beyond}
use Rattle.suite.proofs.checks.judged.Goals as goal

pub returns-then-space-first_end : goal.returns-then-space-first_end
returns-then-space-first_end c = first_beyond _ _ (omega arith)

pub returns-then-space-second_end : goal.returns-then-space-second_end
returns-then-space-second_end c = second_beyond _ _ (omega arith) (omega arith)

pub returns-then-test-gt2 : goal.returns-then-test-gt2
returns-then-test-gt2 c = mode_beyond _ _ (omega arith) (omega arith) (omega arith)

pub returns-then-test-gt11 : goal.returns-then-test-gt11
returns-then-test-gt11 c = number_beyond _ _ (omega arith) (omega arith) (omega arith) (omega arith)

pub returns : goal.returns
returns c = none_beyond _ _ (omega arith) (omega arith) (omega arith) (omega arith)
