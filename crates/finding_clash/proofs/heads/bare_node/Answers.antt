-- `finding_clash::heads::bare_node` meets its contract. Assumes nothing.
use native.Mathlib.Omega.{arith}
use Rattle.finding_clash.proofs.Baring.{node_there, bares_atom, bares_arcs}
use Rattle.finding_clash.proofs.heads.bare_node.Goals as goal

pub offset_bounds-w-p : goal.offset_bounds-w-p
offset_bounds-w-p c = let t = node_there _ _ _ c.requires in omega arith

pub bounds-w-p : goal.bounds-w-p
bounds-w-p c = let t = node_there _ _ _ c.requires in omega arith

pub offset_bounds-w-p-then-head-ge-CODE_LIMIT : goal.offset_bounds-w-p-then-head-ge-CODE_LIMIT
offset_bounds-w-p-then-head-ge-CODE_LIMIT c = let t = node_there _ _ _ c.requires in omega arith

pub bounds-w-p-then-head-ge-CODE_LIMIT : goal.bounds-w-p-then-head-ge-CODE_LIMIT
bounds-w-p-then-head-ge-CODE_LIMIT c = let t = node_there _ _ _ c.requires in omega arith

pub overflow_add-result : goal.overflow_add-result
overflow_add-result c = let t = node_there _ _ _ c.requires in omega arith

pub returns-then-head-ge-CODE_LIMIT : goal.returns-then-head-ge-CODE_LIMIT
returns-then-head-ge-CODE_LIMIT c = bares_atom _ _ _ c.requires (omega arith)

pub overflow_add-result-2 : goal.overflow_add-result-2
overflow_add-result-2 c = let t = node_there _ _ _ c.requires in omega arith

pub overflow_add-result-3 : goal.overflow_add-result-3
overflow_add-result-3 c = let t = node_there _ _ _ c.requires in omega arith

pub returns : goal.returns
returns c = bares_arcs _ _ _ c.requires _ c.wide.ensures (omega arith)
