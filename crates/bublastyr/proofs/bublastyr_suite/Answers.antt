-- `bublastyr_suite` meets its contract: the number is that of the refusal. Assumes nothing.
use Rattle.bublastyr.proofs.bublastyr_suite.Goals as goal

pub returns : goal.returns
returns c = rw c.number.ensures c.suite-refused.ensures
