-- `loading::loading::load_graph` meets its contract: the header comes before what `load_nodes` loads, and what it packs fits a word.
-- Assumes nothing.
use native.Mathlib.Omega.{arith}
use Prim.Native.Nat.{◌+◌, ◌≤◌, ◌<◌}
use lib.ListN.{length, get_or}
use Rattle.theory.specs.Limits.{input_limit}
use Rattle.loading.specs.Loading.{its_nodes}
use Rattle.loading.proofs.Parts.{loads_reach, loads_keeps, graph_there, graph_asks, graph_loads}
use Rattle.loading.proofs.loading.load_graph.Goals as goal

pub offset_bounds-ws-p : goal.offset_bounds-ws-p
offset_bounds-ws-p c = omega (arith, graph_there _ _ _ c.requires.asked)

pub bounds-ws-p : goal.bounds-ws-p
bounds-ws-p c = omega (arith, graph_there _ _ _ c.requires.asked)

pub overflow_add-p : goal.overflow_add-p
overflow_add-p c = omega (arith, graph_there _ _ _ c.requires.asked)

pub load_nodes-at-requires : goal.load_nodes-at-requires
load_nodes-at-requires c = record {
  room = c.requires.room;
  asked = graph_asks _ _ _ c.requires.asked;
}

pub overflow_sub-extent : goal.overflow_sub-extent
overflow_sub-extent c =
    let reach : (c.args.p + 1 ≤ c.load_nodes-at.result)
    × (c.load_nodes-at.result ≤ length c.args.ws.now) = loads_reach (its_nodes _) _ _ _ _ _ _ _ _
    (omega (arith, graph_there _ _ _ c.requires.asked))
    (graph_asks _ _ _ c.requires.asked) c.load_nodes-at.ensures in omega (arith, reach)

pub overflow_cast-extent : goal.overflow_cast-extent
overflow_cast-extent c =
    let reach : (c.args.p + 1 ≤ c.load_nodes-at.result)
    × (c.load_nodes-at.result ≤ length c.args.ws.now) = loads_reach (its_nodes _) _ _ _ _ _ _ _ _
    (omega (arith, graph_there _ _ _ c.requires.asked))
    (graph_asks _ _ _ c.requires.asked) c.load_nodes-at.ensures in omega (arith, reach)

pub graph_word-requires : goal.graph_word-requires
graph_word-requires c =
    let reach : (c.args.p + 1 ≤ c.load_nodes-at.result)
    × (c.load_nodes-at.result ≤ length c.args.ws.now) = loads_reach (its_nodes _) _ _ _ _ _ _ _ _
    (omega (arith, graph_there _ _ _ c.requires.asked))
    (graph_asks _ _ _ c.requires.asked) c.load_nodes-at.ensures in
    let there : (c.args.p
    < length c.args.ws.now)
    × (c.args.number
    + get_or c.args.ws.now
    c.args.p 0 ≤ input_limit) = graph_there _ _ _ c.requires.asked in
    (omega (arith, there), (omega (arith, there), omega (arith, reach, c.requires.room.few)))

pub overflow_add-t : goal.overflow_add-t
overflow_add-t c =
    let there : (c.args.p
    < length c.args.ws.now)
    × (c.args.number
    + get_or c.args.ws.now
    c.args.p 0 ≤ input_limit) = graph_there _ _ _ c.requires.asked in omega (arith, there)

pub offset_bounds-t-shift : goal.offset_bounds-t-shift
offset_bounds-t-shift c =
    let there : (c.args.p
    < length c.args.ws.now)
    × (c.args.number
    + get_or c.args.ws.now
    c.args.p 0 ≤ input_limit) = graph_there _ _ _ c.requires.asked in omega (arith, there)

pub bounds-t-shift : goal.bounds-t-shift
bounds-t-shift c =
    let there : (c.args.p
    < length c.args.ws.now)
    × (c.args.number
    + get_or c.args.ws.now
    c.args.p 0 ≤ input_limit) = graph_there _ _ _ c.requires.asked in omega (
      arith,
      there,
      loads_keeps (its_nodes _) _ _ _ _ _ _ _ _ (graph_asks _ _ _ c.requires.asked)
          c.load_nodes-at.ensures,
    )

pub overflow_add-result : goal.overflow_add-result
overflow_add-result c =
    let there : (c.args.p
    < length c.args.ws.now)
    × (c.args.number
    + get_or c.args.ws.now
    c.args.p 0 ≤ input_limit) = graph_there _ _ _ c.requires.asked in omega (arith, there)

pub returns : goal.returns
returns d =
    let c = d.before in
    graph_loads _ _ _ _ _ c.requires.room.room _ _ _
    c.load_nodes-at.ensures d.graph_word.ensures
