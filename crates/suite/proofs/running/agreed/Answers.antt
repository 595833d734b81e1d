-- `suite::running::agreed` meets its contract. Assumes nothing.
use Rattle.suite.proofs.Laws.{number_decides, readings_decide}
use Rattle.suite.proofs.running.agreed.Goals as goal

pub returns-then-test-seen : goal.returns-then-test-seen
returns-then-test-seen c = readings_decide _ _ _ c.if-test-seen.true

pub returns-else-test-seen : goal.returns-else-test-seen
returns-else-test-seen c = number_decides _ _ _ c.if-test-seen.false
