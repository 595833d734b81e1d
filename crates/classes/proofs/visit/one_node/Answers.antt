-- `classes::visit::one_node` meets its contract. Assumes nothing.
use Rattle.classes.proofs.Runs.{listing_one, noded_one}
use Rattle.classes.proofs.visit.one_node.Goals as goal

pub nodes-requires : goal.nodes-requires
nodes-requires c = record {
  listing = listing_one _ _ _ _ _ _ _ c.requires.noding;
}

pub returns : goal.returns
returns c = noded_one _ _ _ _ _ _ _ _ _ _ c.nodes.ensures
