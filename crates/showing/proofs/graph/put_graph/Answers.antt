-- `showing::graph::put_graph` meets its contract: the graph is joined with what is certain beside it, or copied.
-- Assumes nothing.
use Rattle.showing.proofs.Owning.{asks_look, asks_copy, owned}
use Rattle.showing.proofs.graph.put_graph.Goals as goal

pub lone-requires : goal.lone-requires
lone-requires c = asks_look _ _ _ _ _ c.requires

pub copy_graph-requires : goal.copy_graph-requires
copy_graph-requires c = asks_copy _ _ _ _ _ c.requires _ c.lone.ensures (cc)

pub returns : goal.returns
returns c = λ d. owned _ _ _ _ _ d _ c.lone.ensures (cc) _ _
    c.copy_graph.ensures
