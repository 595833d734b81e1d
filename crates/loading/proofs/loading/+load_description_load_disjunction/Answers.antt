-- `loading::loading::load_description` and `loading::loading::load_disjunction`, which call each other, meet their contracts: what is
-- left of a series goes on to load all of it, and the depth falls.
-- Assumes nothing.
use native.Mathlib.Omega.{arith}
use mathlib.Core.Path.{◌≡◌, ◌∙◌}
use Prim.Native.Nat.{suc, ◌+◌, ◌<◌, ◌≤◌, ◌-◌}
use lib.ListN.{length, get_or, length-set}
use Rattle.theory.specs.Limits.{input_limit}
use Rattle.loading.specs.Loading.{stock, a_graph, a_disjunction, a_description, Asked}
use Rattle.loading.proofs.Series.{asks, asks_first, go_on, finish}
use Rattle.loading.proofs.Sequels.{disjunctions_step, disjunctions_end, alternatives_step, alternatives_end, its_disjunctions}
use Rattle.loading.proofs.Sequels.{its_alternatives}
use Rattle.loading.proofs.Parts.{room_keeps, loads_keeps, description_asks, description_goes, description_ends, description_loads}
use Rattle.loading.proofs.Parts.{disjunction_there, disjunction_asks, disjunction_loads}
use Rattle.loading.proofs.loading.+load_description_load_disjunction.Goals as goal

pub load_description-load_graph-graph-requires : goal.load_description-load_graph-graph-requires
load_description-load_graph-graph-requires t c = record {
  room = c.requires.room;
  asked = description_asks _ c.requires.room.few _ _ _ _ _ c.requires.asked;
}

pub load_description-offset_bounds-ws-q : goal.load_description-offset_bounds-ws-q
load_description-offset_bounds-ws-q t c = omega (arith, (description_goes _ c.requires.room.few _ _ _ _ _ _ _ _ _ _ c.load_graph-graph.ensures c.requires.asked).0)

pub load_description-bounds-ws-q : goal.load_description-bounds-ws-q
load_description-bounds-ws-q t c = omega (arith, (description_goes _ c.requires.room.few _ _ _ _ _ _ _ _ _ _ c.load_graph-graph.ensures c.requires.asked).0)

pub load_description-overflow_add-reach : goal.load_description-overflow_add-reach
load_description-overflow_add-reach t c = omega (arith, (description_goes _ c.requires.room.few _ _ _ _ _ _ _ _ _ _ c.load_graph-graph.ensures c.requires.asked).0)

pub load_description-load_disjunction-reach-requires : goal.load_description-load_disjunction-reach-requires
load_description-load_disjunction-reach-requires t c =
    let first : Asked (a_disjunction c.args.left) c.args.ws.now c.loop.reach.at (stock c.loop.reach.number 0 c.loop.reach.mark) = asks_first (its_disjunctions _ _) (a_disjunction _) (its_disjunctions _ _) _ _ _ (disjunctions_step _ (get_or c.args.ws.now c.load_graph-graph.result.at 0 - suc c.loop.counter) (omega arith) _)
    (asks _ _ _ _ (its_disjunctions c.args.left (get_or c.args.ws.now c.load_graph-graph.result.at 0)) (its_disjunctions c.args.left (get_or c.args.ws.now c.load_graph-graph.result.at 0 - c.loop.counter)) _ _ _ _ c.loop.invariant
    (description_goes _ c.requires.room.few _ _ _ _ _ _ _ _ _ _ c.load_graph-graph.ensures c.requires.asked).2) in (
      omega arith,
      (
        room_keeps _ _ _ _ (c.loop.auto.t
            ∙ loads_keeps a_graph _ _ _ _ _ _ _ _ (description_asks _ c.requires.room.few _ _ _ _ _ c.requires.asked)
            c.load_graph-graph.ensures) c.requires.room,
        first,
      ),
    )

pub load_description-loop-preserved : goal.load_description-loop-preserved
load_description-loop-preserved t c =
    let first : Asked (a_disjunction c.args.left) c.args.ws.now c.loop.reach.at (stock c.loop.reach.number 0 c.loop.reach.mark) = asks_first (its_disjunctions _ _) (a_disjunction _) (its_disjunctions _ _) _ _ _ (disjunctions_step _ (get_or c.args.ws.now c.load_graph-graph.result.at 0 - suc c.loop.counter) (omega arith) _)
    (asks _ _ _ _ (its_disjunctions c.args.left (get_or c.args.ws.now c.load_graph-graph.result.at 0)) (its_disjunctions c.args.left (get_or c.args.ws.now c.load_graph-graph.result.at 0 - c.loop.counter)) _ _ _ _ c.loop.invariant
    (description_goes _ c.requires.room.few _ _ _ _ _ _ _ _ _ _ c.load_graph-graph.ensures c.requires.asked).2) in
    let count = get_or c.args.ws.now c.load_graph-graph.result.at 0 in
    let less : count - suc c.loop.counter ≡ count - (c.loop.counter + 1) = omega arith in
    rw (← less) (go_on _ _ _ _ (its_disjunctions c.args.left (get_or c.args.ws.now c.load_graph-graph.result.at 0)) (its_disjunctions c.args.left (get_or c.args.ws.now c.load_graph-graph.result.at 0 - c.loop.counter)) _ _ _ _ c.loop.invariant
    (a_disjunction _) (its_disjunctions c.args.left (count - suc c.loop.counter)) _ _ _ (disjunctions_step _ _ (omega arith) _) c.load_disjunction-reach.ensures)

pub load_description-overflow_add-end : goal.load_description-overflow_add-end
load_description-overflow_add-end t c =
    let reach : (c.loop.reach.at ≤ length c.args.ws.now) × (get_or c.args.ws.now c.load_graph-graph.result.at 0 < length c.args.ws.now) × (c.load_graph-graph.result.at < length c.args.ws.now)
    × (c.args.own < input_limit) = description_ends _ c.requires.room.few _ _ _ _ _ _ _ _ _ _ c.load_graph-graph.ensures _ _ _ c.requires.asked
    (finish _ _ _ _ (its_disjunctions c.args.left (get_or c.args.ws.now c.load_graph-graph.result.at 0)) (its_disjunctions c.args.left (get_or c.args.ws.now c.load_graph-graph.result.at 0 - c.loop.counter)) _ _ _ _ c.loop.invariant (disjunctions_end _ (omega arith) _)) in omega (arith, reach)

pub load_description-overflow_cast-end : goal.load_description-overflow_cast-end
load_description-overflow_cast-end t c =
    let reach : (c.loop.reach.at ≤ length c.args.ws.now) × (get_or c.args.ws.now c.load_graph-graph.result.at 0 < length c.args.ws.now) × (c.load_graph-graph.result.at < length c.args.ws.now)
    × (c.args.own < input_limit) = description_ends _ c.requires.room.few _ _ _ _ _ _ _ _ _ _ c.load_graph-graph.ensures _ _ _ c.requires.asked
    (finish _ _ _ _ (its_disjunctions c.args.left (get_or c.args.ws.now c.load_graph-graph.result.at 0)) (its_disjunctions c.args.left (get_or c.args.ws.now c.load_graph-graph.result.at 0 - c.loop.counter)) _ _ _ _ c.loop.invariant (disjunctions_end _ (omega arith) _)) in omega (arith, reach)

pub load_description-tail_word-requires : goal.load_description-tail_word-requires
load_description-tail_word-requires t c =
    let reach : (c.loop.reach.at ≤ length c.args.ws.now) × (get_or c.args.ws.now c.load_graph-graph.result.at 0 < length c.args.ws.now) × (c.load_graph-graph.result.at < length c.args.ws.now)
    × (c.args.own < input_limit) = description_ends _ c.requires.room.few _ _ _ _ _ _ _ _ _ _ c.load_graph-graph.ensures _ _ _ c.requires.asked
    (finish _ _ _ _ (its_disjunctions c.args.left (get_or c.args.ws.now c.load_graph-graph.result.at 0)) (its_disjunctions c.args.left (get_or c.args.ws.now c.load_graph-graph.result.at 0 - c.loop.counter)) _ _ _ _ c.loop.invariant (disjunctions_end _ (omega arith) _)) in
    (omega (arith, reach, c.requires.room.few), (omega (arith, reach), omega (arith, reach, c.requires.room.few, c.requires.room.near)))

pub load_description-overflow_add-t : goal.load_description-overflow_add-t
load_description-overflow_add-t t c =
    let reach : (c.loop.reach.at ≤ length c.args.ws.now) × (get_or c.args.ws.now c.load_graph-graph.result.at 0 < length c.args.ws.now) × (c.load_graph-graph.result.at < length c.args.ws.now)
    × (c.args.own < input_limit) = description_ends _ c.requires.room.few _ _ _ _ _ _ _ _ _ _ c.load_graph-graph.ensures _ _ _ c.requires.asked
    (finish _ _ _ _ (its_disjunctions c.args.left (get_or c.args.ws.now c.load_graph-graph.result.at 0)) (its_disjunctions c.args.left (get_or c.args.ws.now c.load_graph-graph.result.at 0 - c.loop.counter)) _ _ _ _ c.loop.invariant (disjunctions_end _ (omega arith) _)) in omega (arith, reach)

pub load_description-offset_bounds-t-shift : goal.load_description-offset_bounds-t-shift
load_description-offset_bounds-t-shift t c =
    let reach : (c.loop.reach.at ≤ length c.args.ws.now) × (get_or c.args.ws.now c.load_graph-graph.result.at 0 < length c.args.ws.now) × (c.load_graph-graph.result.at < length c.args.ws.now)
    × (c.args.own < input_limit) = description_ends _ c.requires.room.few _ _ _ _ _ _ _ _ _ _ c.load_graph-graph.ensures _ _ _ c.requires.asked
    (finish _ _ _ _ (its_disjunctions c.args.left (get_or c.args.ws.now c.load_graph-graph.result.at 0)) (its_disjunctions c.args.left (get_or c.args.ws.now c.load_graph-graph.result.at 0 - c.loop.counter)) _ _ _ _ c.loop.invariant (disjunctions_end _ (omega arith) _)) in omega (arith, reach)

pub load_description-bounds-t-shift : goal.load_description-bounds-t-shift
load_description-bounds-t-shift t c =
    let reach : (c.loop.reach.at ≤ length c.args.ws.now) × (get_or c.args.ws.now c.load_graph-graph.result.at 0 < length c.args.ws.now) × (c.load_graph-graph.result.at < length c.args.ws.now)
    × (c.args.own < input_limit) = description_ends _ c.requires.room.few _ _ _ _ _ _ _ _ _ _ c.load_graph-graph.ensures _ _ _ c.requires.asked
    (finish _ _ _ _ (its_disjunctions c.args.left (get_or c.args.ws.now c.load_graph-graph.result.at 0)) (its_disjunctions c.args.left (get_or c.args.ws.now c.load_graph-graph.result.at 0 - c.loop.counter)) _ _ _ _ c.loop.invariant (disjunctions_end _ (omega arith) _)) in
    let graph-kept : length c.load_graph-graph.new.t
    ≡ length c.args.t.now = loads_keeps a_graph _ _ _ _ _ _ _ _ (description_asks _ c.requires.room.few _ _ _ _ _ c.requires.asked)
    c.load_graph-graph.ensures in omega (arith, reach, graph-kept)

pub load_description-returns : goal.load_description-returns
load_description-returns t d =
    let c = d.before in
    description_loads _ c.requires.room.few _ _ _ _ _ _ _ _ _ _ c.load_graph-graph.ensures _ _ _ _ _
    c.requires.room.room
    (finish _ _ _ _ (its_disjunctions c.args.left (get_or c.args.ws.now c.load_graph-graph.result.at 0)) (its_disjunctions c.args.left (get_or c.args.ws.now c.load_graph-graph.result.at 0 - c.loop.counter)) _ _ _ _ c.loop.invariant (disjunctions_end _ (omega arith) _))
    d.tail_word.ensures

pub load_disjunction-offset_bounds-ws-p : goal.load_disjunction-offset_bounds-ws-p
load_disjunction-offset_bounds-ws-p t c = omega (arith, disjunction_there _ _ _ _ _ c.requires.asked)

pub load_disjunction-bounds-ws-p : goal.load_disjunction-bounds-ws-p
load_disjunction-bounds-ws-p t c = omega (arith, disjunction_there _ _ _ _ _ c.requires.asked)

pub load_disjunction-overflow_add-t : goal.load_disjunction-overflow_add-t
load_disjunction-overflow_add-t t c = omega (arith, disjunction_there _ _ _ _ _ c.requires.asked)

pub load_disjunction-offset_bounds-t-shift : goal.load_disjunction-offset_bounds-t-shift
load_disjunction-offset_bounds-t-shift t c = omega (arith, disjunction_there _ _ _ _ _ c.requires.asked)

pub load_disjunction-bounds-t-shift : goal.load_disjunction-bounds-t-shift
load_disjunction-bounds-t-shift t c = omega (arith, disjunction_there _ _ _ _ _ c.requires.asked)

pub load_disjunction-overflow_add-reach : goal.load_disjunction-overflow_add-reach
load_disjunction-overflow_add-reach t c = omega (arith, disjunction_there _ _ _ _ _ c.requires.asked)

pub load_disjunction-overflow_add-reach-2 : goal.load_disjunction-overflow_add-reach-2
load_disjunction-overflow_add-reach-2 t c = omega (arith, disjunction_there _ _ _ _ _ c.requires.asked)

pub load_disjunction-load_description-reach-requires : goal.load_disjunction-load_description-reach-requires
load_disjunction-load_description-reach-requires t c =
    let there : Asked (a_description (c.args.left - 1)) c.args.ws.now c.loop-own.reach.at (stock c.loop-own.reach.number c.loop-own.own c.loop-own.reach.mark) = asks_first (its_alternatives _ _) (a_description _) (its_alternatives _ _) _ _ _ (alternatives_step _ (c.args.mark + get_or c.args.ws.now c.args.p 0 - suc c.loop-own.own) (omega arith) _)
    (asks _ _ _ _ (its_alternatives (c.args.left - 1) (get_or c.args.ws.now c.args.p 0)) (its_alternatives (c.args.left - 1) (c.args.mark + get_or c.args.ws.now c.args.p 0 - c.loop-own.own)) _ _ _ _ c.loop-own.invariant
    (disjunction_asks _ _ _ _ _ c.requires.asked)) in (
      omega (arith, disjunction_there _ _ _ _ _ c.requires.asked),
      (
        room_keeps _ _ _ _ (c.loop-own.auto.t ∙ simp length-set) c.requires.room,
        there,
      ),
    )

pub load_disjunction-loop-own-preserved : goal.load_disjunction-loop-own-preserved
load_disjunction-loop-own-preserved t c =
    let there : Asked (a_description (c.args.left - 1)) c.args.ws.now c.loop-own.reach.at (stock c.loop-own.reach.number c.loop-own.own c.loop-own.reach.mark) = asks_first (its_alternatives _ _) (a_description _) (its_alternatives _ _) _ _ _ (alternatives_step _ (c.args.mark + get_or c.args.ws.now c.args.p 0 - suc c.loop-own.own) (omega arith) _)
    (asks _ _ _ _ (its_alternatives (c.args.left - 1) (get_or c.args.ws.now c.args.p 0)) (its_alternatives (c.args.left - 1) (c.args.mark + get_or c.args.ws.now c.args.p 0 - c.loop-own.own)) _ _ _ _ c.loop-own.invariant
    (disjunction_asks _ _ _ _ _ c.requires.asked)) in
    let count = get_or c.args.ws.now c.args.p 0 in
    let less : c.args.mark + count - suc c.loop-own.own ≡ c.args.mark + count - (c.loop-own.own + 1) = omega arith in
    rw (← less) (go_on _ _ _ _ (its_alternatives (c.args.left - 1) (get_or c.args.ws.now c.args.p 0)) (its_alternatives (c.args.left - 1) (c.args.mark + get_or c.args.ws.now c.args.p 0 - c.loop-own.own)) _ _ _ _ c.loop-own.invariant
    (a_description _) (its_alternatives (c.args.left - 1) (c.args.mark + count - suc c.loop-own.own)) _ _ _ (alternatives_step _ _ (omega arith) _) c.load_description-reach.ensures)

pub load_disjunction-returns : goal.load_disjunction-returns
load_disjunction-returns t c =
    disjunction_loads _ _ _ _ _ c.requires.room.room _ _ _ _ _ _ _
    (finish _ _ _ _ (its_alternatives (c.args.left - 1) (get_or c.args.ws.now c.args.p 0)) (its_alternatives (c.args.left - 1) (c.args.mark + get_or c.args.ws.now c.args.p 0 - c.loop-own.own)) _ _ _ _ c.loop-own.invariant (alternatives_end _ (omega arith) _))

pub load_disjunction-overflow_add-own-end : goal.load_disjunction-overflow_add-own-end
load_disjunction-overflow_add-own-end t c = omega (arith, disjunction_there _ _ _ _ _ c.requires.asked)
