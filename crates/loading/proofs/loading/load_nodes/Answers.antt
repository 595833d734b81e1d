-- `loading::loading::load_nodes` meets its contract: what is left of the nodes goes on to load them all.
-- Assumes nothing.
use native.Mathlib.Omega.{arith}
use mathlib.Core.Path.{◌≡◌}
use Prim.Native.Nat.{suc, ◌+◌, ◌-◌}
use Rattle.loading.specs.Loading.{node_stock, a_node, its_nodes, Asked}
use Rattle.loading.proofs.Series.{asks, asks_first, go_on, finish}
use Rattle.loading.proofs.Sequels.{nodes_step, nodes_end}
use Rattle.loading.proofs.Parts.{room_keeps}
use Rattle.loading.proofs.loading.load_nodes.Goals as goal

pub load_node-at-requires : goal.load_node-at-requires
load_node-at-requires c =
    let there : Asked a_node c.args.ws.now c.loop.at
    (node_stock c.args.number) = asks_first _ _ _ _ _ _ (nodes_step _ (c.args.count - suc c.loop.counter) (omega arith))
    (asks _ _ _ _ (its_nodes c.args.count) (its_nodes (c.args.count - c.loop.counter)) _ _ _ _ c.loop.invariant c.requires.asked) in record {
      room = room_keeps _ _ _ _ c.loop.auto.t c.requires.room;
      asked = there;
    }

pub loop-preserved : goal.loop-preserved
loop-preserved c =
    let there : Asked a_node c.args.ws.now c.loop.at
    (node_stock c.args.number) = asks_first _ _ _ _ _ _ (nodes_step _ (c.args.count - suc c.loop.counter) (omega arith))
    (asks _ _ _ _ (its_nodes c.args.count) (its_nodes (c.args.count - c.loop.counter)) _ _ _ _ c.loop.invariant c.requires.asked) in
    let less : c.args.count - suc c.loop.counter ≡ c.args.count - (c.loop.counter + 1) = omega arith in
    rw (← less) (go_on _ _ _ _ (its_nodes c.args.count) (its_nodes (c.args.count - c.loop.counter)) _ _ _ _ c.loop.invariant a_node (its_nodes (c.args.count - suc c.loop.counter)) _ _ _
    (nodes_step _ _ (omega arith)) c.load_node-at.ensures)

pub returns : goal.returns
returns c = finish _ _ _ _ (its_nodes c.args.count) (its_nodes (c.args.count - c.loop.counter)) _ _ _ _ c.loop.invariant (nodes_end _ (omega arith))
