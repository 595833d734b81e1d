-- `loading::loading::load_node` meets its contract: an atom is its head, and a node with arcs its head and what `load_arcs` loads.
-- Assumes nothing.
use native.Mathlib.Omega.{arith}
use lib.ListN.{length-set}
use Rattle.loading.proofs.Parts.{room_keeps, node_there, node_asks, atom_loads, node_loads}
use Rattle.loading.proofs.loading.load_node.Goals as goal

pub offset_bounds-ws-p : goal.offset_bounds-ws-p
offset_bounds-ws-p c = omega (arith, node_there _ _ _ c.requires.asked)

pub bounds-ws-p : goal.bounds-ws-p
bounds-ws-p c = omega (arith, node_there _ _ _ c.requires.asked)

pub overflow_add-t : goal.overflow_add-t
overflow_add-t c = omega (arith, node_there _ _ _ c.requires.asked)

pub offset_bounds-t-shift : goal.offset_bounds-t-shift
offset_bounds-t-shift c = omega (arith, node_there _ _ _ c.requires.asked)

pub bounds-t-shift : goal.bounds-t-shift
bounds-t-shift c = omega (arith, node_there _ _ _ c.requires.asked)

pub returns-then-head-ge-CODE_LIMIT : goal.returns-then-head-ge-CODE_LIMIT
returns-then-head-ge-CODE_LIMIT c = atom_loads _ _ _ _ _ c.requires.room.room (omega arith)

pub overflow_add-p : goal.overflow_add-p
overflow_add-p c = omega (arith, node_there _ _ _ c.requires.asked)

pub load_arcs-requires : goal.load_arcs-requires
load_arcs-requires c = record {
  room = room_keeps _ _ _ _ (simp length-set) c.requires.room;
  asked = node_asks _ _ _ c.requires.asked (omega arith);
}

pub returns : goal.returns
returns c = node_loads _ _ _ _ _ c.requires.room.room _ _ (omega arith)
    c.load_arcs.ensures
