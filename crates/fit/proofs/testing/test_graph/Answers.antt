-- `fit::testing::test_graph` meets its contract: the nodes are sent exactly when there is a map.
-- Assumes nothing.
use native.Mathlib.Omega.{arith}
use mathlib.Core.Path.{refl}
use lib.Seq.{get_or-set_same}
use Rattle.fit.specs.Parts.{graphIn}
use Rattle.fit.proofs.Things.{graph_there, graph_sends, graph_says}
use Rattle.fit.proofs.testing.test_graph.Goals as goal

pub offset_bounds-ws-p : goal.offset_bounds-ws-p
offset_bounds-ws-p c = omega (arith, graph_there _ (graphIn c.args.structure.words.now 0) _ c.requires.testable)

pub bounds-ws-p : goal.bounds-ws-p
bounds-ws-p c = omega (arith, graph_there _ (graphIn c.args.structure.words.now 0) _ c.requires.testable)

pub overflow_add-p : goal.overflow_add-p
overflow_add-p c = omega (arith, graph_there _ (graphIn c.args.structure.words.now 0) _ c.requires.testable)

pub send_nodes-requires-clause-nodes_asked : goal.send_nodes-requires-clause-nodes_asked
send_nodes-requires-clause-nodes_asked c =
    graph_sends _ _ _ refl c.requires.noted.canonical _ _ (get_or-set_same c.args.map.now 0 0 0 (omega arith)) c.requires.testable

pub returns : goal.returns
returns c = graph_says _ _ _ _ (get_or-set_same c.args.map.now 0 0 0 (omega arith)) c.send_nodes.result c.send_nodes.ensures
