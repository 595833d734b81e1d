-- `loading::loading::load_arcs` meets its contract: what is left of the arcs goes on to load them all.
-- Assumes nothing.
use native.Mathlib.Omega.{arith}
use mathlib.Core.Path.{refl}
use Prim.Native.Nat.{◌+◌, ◌-◌, ◌<◌, ◌≤◌}
use lib.ListN.{length, get_or, length-set}
use Rattle.theory.specs.Limits.{input_limit}
use Rattle.loading.proofs.Series.{begin, asks, asks_first, go_on, finish}
use Rattle.loading.proofs.Sequels.{arcs_step, arcs_end}
use Rattle.loading.proofs.Parts.{arc_there, arc_loads}
use Rattle.loading.proofs.loading.load_arcs.Goals as goal

pub loop-left-init : goal.loop-left-init
loop-left-init c = (refl, begin _ _ _ _ _ _)

pub offset_bounds-ws-at : goal.offset_bounds-ws-at
offset_bounds-ws-at c =
    let there : (c.loop-left.at + 1 < length c.args.ws.now)
    × (get_or c.args.ws.now (c.loop-left.at + 1) 0 < input_limit) × (c.args.number ≤ input_limit) = arc_there _ _ _ (asks_first _ _ _ _ _ _ (arcs_step c.loop-left.left (c.loop-left.left - 1) (omega arith))
    (asks _ _ _ _ _ _ _ _ _ _ c.loop-left.invariant.1 c.requires.asked)) in omega (arith, there)

pub bounds-ws-at : goal.bounds-ws-at
bounds-ws-at c =
    let there : (c.loop-left.at + 1 < length c.args.ws.now)
    × (get_or c.args.ws.now (c.loop-left.at + 1) 0 < input_limit) × (c.args.number ≤ input_limit) = arc_there _ _ _ (asks_first _ _ _ _ _ _ (arcs_step c.loop-left.left (c.loop-left.left - 1) (omega arith))
    (asks _ _ _ _ _ _ _ _ _ _ c.loop-left.invariant.1 c.requires.asked)) in omega (arith, there)

pub overflow_add-t : goal.overflow_add-t
overflow_add-t c =
    let there : (c.loop-left.at + 1 < length c.args.ws.now)
    × (get_or c.args.ws.now (c.loop-left.at + 1) 0 < input_limit) × (c.args.number ≤ input_limit) = arc_there _ _ _ (asks_first _ _ _ _ _ _ (arcs_step c.loop-left.left (c.loop-left.left - 1) (omega arith))
    (asks _ _ _ _ _ _ _ _ _ _ c.loop-left.invariant.1 c.requires.asked)) in omega (arith, there)

pub offset_bounds-t-shift : goal.offset_bounds-t-shift
offset_bounds-t-shift c =
    let there : (c.loop-left.at + 1 < length c.args.ws.now)
    × (get_or c.args.ws.now (c.loop-left.at + 1) 0 < input_limit) × (c.args.number ≤ input_limit) = arc_there _ _ _ (asks_first _ _ _ _ _ _ (arcs_step c.loop-left.left (c.loop-left.left - 1) (omega arith))
    (asks _ _ _ _ _ _ _ _ _ _ c.loop-left.invariant.1 c.requires.asked)) in omega (arith, there)

pub bounds-t-shift : goal.bounds-t-shift
bounds-t-shift c =
    let there : (c.loop-left.at + 1 < length c.args.ws.now)
    × (get_or c.args.ws.now (c.loop-left.at + 1) 0 < input_limit) × (c.args.number ≤ input_limit) = arc_there _ _ _ (asks_first _ _ _ _ _ _ (arcs_step c.loop-left.left (c.loop-left.left - 1) (omega arith))
    (asks _ _ _ _ _ _ _ _ _ _ c.loop-left.invariant.1 c.requires.asked)) in omega (arith, there)

pub overflow_add-t-in-loop-left : goal.overflow_add-t-in-loop-left
overflow_add-t-in-loop-left c =
    let there : (c.loop-left.at + 1 < length c.args.ws.now)
    × (get_or c.args.ws.now (c.loop-left.at + 1) 0 < input_limit) × (c.args.number ≤ input_limit) = arc_there _ _ _ (asks_first _ _ _ _ _ _ (arcs_step c.loop-left.left (c.loop-left.left - 1) (omega arith))
    (asks _ _ _ _ _ _ _ _ _ _ c.loop-left.invariant.1 c.requires.asked)) in omega (arith, there)

pub offset_bounds-ws-at-in-loop-left : goal.offset_bounds-ws-at-in-loop-left
offset_bounds-ws-at-in-loop-left c =
    let there : (c.loop-left.at + 1 < length c.args.ws.now)
    × (get_or c.args.ws.now (c.loop-left.at + 1) 0 < input_limit) × (c.args.number ≤ input_limit) = arc_there _ _ _ (asks_first _ _ _ _ _ _ (arcs_step c.loop-left.left (c.loop-left.left - 1) (omega arith))
    (asks _ _ _ _ _ _ _ _ _ _ c.loop-left.invariant.1 c.requires.asked)) in omega (arith, there)

pub bounds-ws-at-in-loop-left : goal.bounds-ws-at-in-loop-left
bounds-ws-at-in-loop-left c =
    let there : (c.loop-left.at + 1 < length c.args.ws.now)
    × (get_or c.args.ws.now (c.loop-left.at + 1) 0 < input_limit) × (c.args.number ≤ input_limit) = arc_there _ _ _ (asks_first _ _ _ _ _ _ (arcs_step c.loop-left.left (c.loop-left.left - 1) (omega arith))
    (asks _ _ _ _ _ _ _ _ _ _ c.loop-left.invariant.1 c.requires.asked)) in omega (arith, there)

pub overflow_add-t-in-loop-left-2 : goal.overflow_add-t-in-loop-left-2
overflow_add-t-in-loop-left-2 c =
    let there : (c.loop-left.at + 1 < length c.args.ws.now)
    × (get_or c.args.ws.now (c.loop-left.at + 1) 0 < input_limit) × (c.args.number ≤ input_limit) = arc_there _ _ _ (asks_first _ _ _ _ _ _ (arcs_step c.loop-left.left (c.loop-left.left - 1) (omega arith))
    (asks _ _ _ _ _ _ _ _ _ _ c.loop-left.invariant.1 c.requires.asked)) in omega (arith, there)

pub overflow_add-t-in-loop-left-3 : goal.overflow_add-t-in-loop-left-3
overflow_add-t-in-loop-left-3 c =
    let there : (c.loop-left.at + 1 < length c.args.ws.now)
    × (get_or c.args.ws.now (c.loop-left.at + 1) 0 < input_limit) × (c.args.number ≤ input_limit) = arc_there _ _ _ (asks_first _ _ _ _ _ _ (arcs_step c.loop-left.left (c.loop-left.left - 1) (omega arith))
    (asks _ _ _ _ _ _ _ _ _ _ c.loop-left.invariant.1 c.requires.asked)) in omega (arith, there)

pub overflow_add-t-in-loop-left-4 : goal.overflow_add-t-in-loop-left-4
overflow_add-t-in-loop-left-4 c =
    let there : (c.loop-left.at + 1 < length c.args.ws.now)
    × (get_or c.args.ws.now (c.loop-left.at + 1) 0 < input_limit) × (c.args.number ≤ input_limit) = arc_there _ _ _ (asks_first _ _ _ _ _ _ (arcs_step c.loop-left.left (c.loop-left.left - 1) (omega arith))
    (asks _ _ _ _ _ _ _ _ _ _ c.loop-left.invariant.1 c.requires.asked)) in omega (arith, there)

pub offset_bounds-t-shift-in-loop-left : goal.offset_bounds-t-shift-in-loop-left
offset_bounds-t-shift-in-loop-left c =
    let there : (c.loop-left.at + 1 < length c.args.ws.now)
    × (get_or c.args.ws.now (c.loop-left.at + 1) 0 < input_limit) × (c.args.number ≤ input_limit) = arc_there _ _ _ (asks_first _ _ _ _ _ _ (arcs_step c.loop-left.left (c.loop-left.left - 1) (omega arith))
    (asks _ _ _ _ _ _ _ _ _ _ c.loop-left.invariant.1 c.requires.asked)) in omega (arith, there)

pub bounds-t-shift-in-loop-left : goal.bounds-t-shift-in-loop-left
bounds-t-shift-in-loop-left c =
    let there : (c.loop-left.at + 1 < length c.args.ws.now)
    × (get_or c.args.ws.now (c.loop-left.at + 1) 0 < input_limit) × (c.args.number ≤ input_limit) = arc_there _ _ _ (asks_first _ _ _ _ _ _ (arcs_step c.loop-left.left (c.loop-left.left - 1) (omega arith))
    (asks _ _ _ _ _ _ _ _ _ _ c.loop-left.invariant.1 c.requires.asked)) in simp length-set (omega (arith, there))

pub overflow_add-at : goal.overflow_add-at
overflow_add-at c =
    let there : (c.loop-left.at + 1 < length c.args.ws.now)
    × (get_or c.args.ws.now (c.loop-left.at + 1) 0 < input_limit) × (c.args.number ≤ input_limit) = arc_there _ _ _ (asks_first _ _ _ _ _ _ (arcs_step c.loop-left.left (c.loop-left.left - 1) (omega arith))
    (asks _ _ _ _ _ _ _ _ _ _ c.loop-left.invariant.1 c.requires.asked)) in omega (arith, there)

pub loop-left-preserved : goal.loop-left-preserved
loop-left-preserved c = (
  simp length-set c.loop-left.invariant.0,
  go_on _ _ _ _ _ _ _ _ _ _ c.loop-left.invariant.1 _ _ _ _ _ (arcs_step c.loop-left.left (c.loop-left.left - 1) (omega arith))
      (arc_loads _ _ _ _ _ (omega arith)),
)

pub returns : goal.returns
returns c = finish _ _ _ _ _ _ _ _ _ _ c.loop-left.invariant.1 (arcs_end _ (omega arith))
