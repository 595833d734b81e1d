-- `finding_clash::notes::engine_number` meets its contract. Assumes nothing.
use native.Mathlib.Omega.{arith}
use Rattle.finding_clash.proofs.Passing.{number_first, number_second}
use Rattle.finding_clash.proofs.notes.engine_number.Goals as goal

pub returns-then-i-c : goal.returns-then-i-c
returns-then-i-c c = number_first _ _ _ (omega arith)

pub returns-else-i-c : goal.returns-else-i-c
returns-else-i-c c = number_second _ _ _ (omega arith)
