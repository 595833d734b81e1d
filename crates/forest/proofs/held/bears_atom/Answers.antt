-- `forest::held::bears_atom` meets its contract. Assumes nothing.
use Rattle.forest.specs.Held.{held_by}
use Rattle.forest.proofs.Contents.{bears_code}
use Rattle.forest.proofs.held.bears_atom.Goals as goal

pub returns : goal.returns
unfolding held_by
returns c = bears_code _
