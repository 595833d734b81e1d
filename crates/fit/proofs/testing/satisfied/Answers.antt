-- `fit::testing::satisfied` meets its contract.
-- Assumes nothing.
use Rattle.fit.specs.Parts.{graphIn}
use Rattle.fit.proofs.Whole.{whole_asked, whole_tested}
use Rattle.fit.proofs.testing.satisfied.Goals as goal

pub test_description-requires-clause-testable : goal.test_description-requires-clause-testable
test_description-requires-clause-testable c = whole_asked _ (graphIn c.args.structure.now 0) c.requires.few c.requires.image

pub returns : goal.returns
returns c = rw c.is_some.ensures (whole_tested _ _ _ c.test_description.ensures)
