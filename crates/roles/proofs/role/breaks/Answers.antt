-- `roles::role::breaks` meets its contract. Assumes nothing.
use Rattle.roles.proofs.role.breaks.Goals as goal

pub returns-in-Head : goal.returns-in-Head
returns-in-Head c = λ s e. rw c.in-Head.is (c.head_breaks.ensures s)

pub returns-in-Feature : goal.returns-in-Feature
returns-in-Feature c = λ s e. rw c.in-Feature.is (c.feature_breaks.ensures s)

pub returns-in-Target : goal.returns-in-Target
returns-in-Target c = λ s e. rw c.in-Target.is (c.target_breaks.ensures s)
