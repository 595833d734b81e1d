-- `unify::making::begin` meets its contract. Assumes nothing.
use Rattle.unify.proofs.Beginning.{asks_node, begins_clash, begins_joined}
use Rattle.unify.proofs.making.begin.Goals as goal

pub clash_node-node-requires : goal.clash_node-node-requires
clash_node-node-requires c = asks_node _ _ _ c.requires c.open.result _ c.open.ensures

pub returns-in_default : goal.returns-in_default
returns-in_default c =
    begins_clash _ _ _ c.requires c.open.result _ c.open.ensures c.in_default.is _ _ c.clash_node-node.ensures

pub returns : goal.returns
returns c = begins_joined _ _ _ c.requires c.open.result _ c.open.ensures _ _ c.in-Some.is _ c.clear_marks.ensures
