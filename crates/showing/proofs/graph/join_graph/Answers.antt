-- `showing::graph::join_graph` meets its contract: the description is entered, its joined graph written, and all taken back.
-- Assumes nothing.
use Rattle.showing.proofs.Leading.{asks_enter, not_clashed, asks_write, asks_back, led}
use Rattle.showing.proofs.graph.join_graph.Goals as goal

pub enter-requires : goal.enter-requires
enter-requires c = asks_enter _ _ _ _ _ c.requires

pub returns-in_default : goal.returns-in_default
returns-in_default c = λ d. absurd (not_clashed _ _ _ _ _ d _ _ c.enter.ensures c.in_default.is)

pub write_graph-r-requires : goal.write_graph-r-requires
write_graph-r-requires c = asks_write _ _ _ _ _ c.requires _ _
    c.enter.ensures _ c.in-Some.is

pub back-requires : goal.back-requires
back-requires c = asks_back _ _ _ _ _
    c.requires _ _
    c.enter.ensures _
    c.in-Some.is _ _ c.write_graph-r.ensures

pub returns : goal.returns
returns c = λ d. led _ _ _ _ _ d _ _
    c.enter.ensures _
    c.in-Some.is _ _
    c.write_graph-r.ensures _ c.back.ensures
