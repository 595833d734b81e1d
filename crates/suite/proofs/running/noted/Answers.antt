-- `suite::running::noted` meets its contract. Assumes nothing.
use native.Mathlib.Omega.{arith}
use Rattle.suite.proofs.Laws.{noted_good, noted_first, noted_later}
use Rattle.suite.proofs.running.noted.Goals as goal

pub returns-then-agreed : goal.returns-then-agreed
returns-then-agreed c = noted_good _ _ _ _ (cc)

pub returns-then-held-eq64 : goal.returns-then-held-eq64
returns-then-held-eq64 c = noted_first _ _ _ _ (cc) (omega arith)

pub returns : goal.returns
returns c = noted_later _ _ _ _ (cc) (λ e. omega arith)
