-- `suite::checks::counted` meets its contract. Assumes nothing.
use native.Mathlib.Omega.{arith}
use Rattle.suite.proofs.Laws.{too_many, not_many}
use Rattle.suite.proofs.checks.counted.Goals as goal

pub returns-then-n-gt-LIMIT : goal.returns-then-n-gt-LIMIT
returns-then-n-gt-LIMIT c = too_many _ (omega arith)

pub returns : goal.returns
returns c = not_many _ (omega arith)
