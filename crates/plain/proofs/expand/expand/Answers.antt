-- `plain::expand::expand` meets its contract. The outer loop's invariant: of the first `next` choices so many are found; the middle
-- one's: the first i graphs of a choice are joined; the inner one's: of a graph that comes the nodes below `node` are. Assumes nothing.
use Prim.Native.Nat.{◌+◌, ◌-◌, ◌<◌}
use native.Mathlib.Omega.{arith}
use native.Mathlib.Nat.{add-sub_cancel_left, sub-add-eq}
use mathlib.Core.Path.{refl, ap}
use mathlib.Core.Bool.{not}
use Rattle.plain.proofs.Joining.{Choice, through_none, through_agrees, through_place, through_old, told_new, Coming}
use Rattle.plain.proofs.Joining.{unite_asks, unite_low, root_later, root_clash, onward_none, onward_turn, Nodes, nodes_come}
use Rattle.plain.proofs.Joining.{node_asks, through_next, node_clash, joined_later, node_here, node_room}
use Rattle.plain.proofs.Choices.{Step, choosing_next, step_choice, step_few, step_clash, step_lights, step_more}
use Rattle.plain.proofs.Choices.{searches}
use borrow.Author.Rules.{rules}
use Rattle.plain.proofs.expand.expand.Goals as goal

pub choose_both-many-requires : goal.choose_both-many-requires
choose_both-many-requires c =
    choosing_next c.requires c.choices.invariant c.choices-test.true

pub loop-i-init : goal.loop-i-init
loop-i-init c =
    let step : Step c.args.n.count c.args.k c.args.w.now c.args.total c.choices.next c.choices.found c.choose_both-many.result
    c.choose_both-many.new.w = record {
      pre = c.requires;
      w = c.choices.w;
      gone = c.choices.invariant;
      some = c.choices-test.true;
      chosen = c.choose_both-many.ensures;
    } in
    let choice : Choice c.args.n.count c.args.k c.choose_both-many.new.w c.choose_both-many.result = step_choice step in
    through_none _ _ _ _ choice.holds.state.logged

pub listed-word-requires : goal.listed-word-requires
listed-word-requires c =
    let step : Step c.args.n.count c.args.k c.args.w.now c.args.total c.choices.next c.choices.found c.choose_both-many.result
    c.choose_both-many.new.w = record {
      pre = c.requires;
      w = c.choices.w;
      gone = c.choices.invariant;
      some = c.choices-test.true;
      chosen = c.choose_both-many.ensures;
    } in
    let choice : Choice c.args.n.count c.args.k c.choose_both-many.new.w c.choose_both-many.result = step_choice step in
    omega (arith, step_few step)

pub loop-i-preserved-then-not-is_new : goal.loop-i-preserved-then-not-is_new
loop-i-preserved-then-not-is_new c =
    through_old c.loop-i.invariant c.loop-i-test.true c.listed-word.ensures c.is_new.ensures (ap not c.if-not-is_new.true)

pub loaded-head-requires : goal.loaded-head-requires
loaded-head-requires c =
    let step : Step c.args.n.count c.args.k c.args.w.now c.args.total c.choices.next c.choices.found c.choose_both-many.result
    c.choose_both-many.new.w = record {
      pre = c.requires;
      w = c.choices.w;
      gone = c.choices.invariant;
      some = c.choices-test.true;
      chosen = c.choose_both-many.ensures;
    } in
    let choice : Choice c.args.n.count c.args.k c.choose_both-many.new.w c.choose_both-many.result = step_choice step in
    (through_place c.loop-i.invariant c.loop-i-test.true choice c.listed-word.ensures c.place_of-g.ensures).0

pub unite-requires-clause-x_lt_n : goal.unite-requires-clause-x_lt_n
unite-requires-clause-x_lt_n c =
    let step : Step c.args.n.count c.args.k c.args.w.now c.args.total c.choices.next c.choices.found c.choose_both-many.result
    c.choose_both-many.new.w = record {
      pre = c.requires;
      w = c.choices.w;
      gone = c.choices.invariant;
      some = c.choices-test.true;
      chosen = c.choose_both-many.ensures;
    } in
    let choice : Choice c.args.n.count c.args.k c.choose_both-many.new.w c.choose_both-many.result = step_choice step in
    let coming : Coming c.args.n.count c.args.k c.choose_both-many.new.w c.choose_both-many.result c.loop-i.i c.loop-i.log c.loop-i.w
    c.place_of-g.result c.number_of-first.result c.nodes_of-count.result = record {
      through = c.loop-i.invariant;
      some = c.loop-i-test.true;
      word = c.listed-word.result;
      read = c.listed-word.ensures;
      told = told_new c.is_new.ensures (ap not c.if-not-is_new.false);
      place = c.place_of-g.ensures;
      head = c.loaded-head.result;
      is = c.loaded-head.ensures;
      first = c.number_of-first.ensures;
      nodes = c.nodes_of-count.ensures;
    } in
    (unite_asks coming choice).1.0

pub unite-requires-clause-uniting : goal.unite-requires-clause-uniting
unite-requires-clause-uniting c =
    let step : Step c.args.n.count c.args.k c.args.w.now c.args.total c.choices.next c.choices.found c.choose_both-many.result
    c.choose_both-many.new.w = record {
      pre = c.requires;
      w = c.choices.w;
      gone = c.choices.invariant;
      some = c.choices-test.true;
      chosen = c.choose_both-many.ensures;
    } in
    let choice : Choice c.args.n.count c.args.k c.choose_both-many.new.w c.choose_both-many.result = step_choice step in
    let coming : Coming c.args.n.count c.args.k c.choose_both-many.new.w c.choose_both-many.result c.loop-i.i c.loop-i.log c.loop-i.w
    c.place_of-g.result c.number_of-first.result c.nodes_of-count.result = record {
      through = c.loop-i.invariant;
      some = c.loop-i-test.true;
      word = c.listed-word.result;
      read = c.listed-word.ensures;
      told = told_new c.is_new.ensures (ap not c.if-not-is_new.false);
      place = c.place_of-g.ensures;
      head = c.loaded-head.result;
      is = c.loaded-head.ensures;
      first = c.number_of-first.ensures;
      nodes = c.nodes_of-count.ensures;
    } in
    (unite_asks coming choice).1.1

pub choices-preserved-in-Err : goal.choices-preserved-in-Err
choices-preserved-in-Err c =
    let step : Step c.args.n.count c.args.k c.args.w.now c.args.total c.choices.next c.choices.found c.choose_both-many.result
    c.choose_both-many.new.w = record {
      pre = c.requires;
      w = c.choices.w;
      gone = c.choices.invariant;
      some = c.choices-test.true;
      chosen = c.choose_both-many.ensures;
    } in
    let coming : Coming c.args.n.count c.args.k c.choose_both-many.new.w c.choose_both-many.result c.loop-i.i c.loop-i.log c.loop-i.w
    c.place_of-g.result c.number_of-first.result c.nodes_of-count.result = record {
      through = c.loop-i.invariant;
      some = c.loop-i-test.true;
      word = c.listed-word.result;
      read = c.listed-word.ensures;
      told = told_new c.is_new.ensures (ap not c.if-not-is_new.false);
      place = c.place_of-g.ensures;
      head = c.loaded-head.result;
      is = c.loaded-head.ensures;
      first = c.number_of-first.ensures;
      nodes = c.nodes_of-count.ensures;
    } in
    step_clash step (root_later coming c.in-Err.ensures) c.undo.ensures (root_clash coming c.in-Err.ensures refl)

pub overflow_add-at : goal.overflow_add-at
overflow_add-at c =
    let step : Step c.args.n.count c.args.k c.args.w.now c.args.total c.choices.next c.choices.found c.choose_both-many.result
    c.choose_both-many.new.w = record {
      pre = c.requires;
      w = c.choices.w;
      gone = c.choices.invariant;
      some = c.choices-test.true;
      chosen = c.choose_both-many.ensures;
    } in
    let choice : Choice c.args.n.count c.args.k c.choose_both-many.new.w c.choose_both-many.result = step_choice step in
    let coming : Coming c.args.n.count c.args.k c.choose_both-many.new.w c.choose_both-many.result c.loop-i.i c.loop-i.log c.loop-i.w
    c.place_of-g.result c.number_of-first.result c.nodes_of-count.result = record {
      through = c.loop-i.invariant;
      some = c.loop-i-test.true;
      word = c.listed-word.result;
      read = c.listed-word.ensures;
      told = told_new c.is_new.ensures (ap not c.if-not-is_new.false);
      place = c.place_of-g.ensures;
      head = c.loaded-head.result;
      is = c.loaded-head.ensures;
      first = c.number_of-first.ensures;
      nodes = c.nodes_of-count.ensures;
    } in
    let low = unite_low coming choice in
    omega arith

pub loop-node-init : goal.loop-node-init
loop-node-init c =
    rw add-sub_cancel_left (onward_none _ _ _ _ _ _)

pub one_node-requires : goal.one_node-requires
one_node-requires c =
    let step : Step c.args.n.count c.args.k c.args.w.now c.args.total c.choices.next c.choices.found c.choose_both-many.result
    c.choose_both-many.new.w = record {
      pre = c.requires;
      w = c.choices.w;
      gone = c.choices.invariant;
      some = c.choices-test.true;
      chosen = c.choose_both-many.ensures;
    } in
    let choice : Choice c.args.n.count c.args.k c.choose_both-many.new.w c.choose_both-many.result = step_choice step in
    let coming : Coming c.args.n.count c.args.k c.choose_both-many.new.w c.choose_both-many.result c.loop-i.i c.loop-i.log c.loop-i.w
    c.place_of-g.result c.number_of-first.result c.nodes_of-count.result = record {
      through = c.loop-i.invariant;
      some = c.loop-i-test.true;
      word = c.listed-word.result;
      read = c.listed-word.ensures;
      told = told_new c.is_new.ensures (ap not c.if-not-is_new.false);
      place = c.place_of-g.ensures;
      head = c.loaded-head.result;
      is = c.loaded-head.ensures;
      first = c.number_of-first.ensures;
      nodes = c.nodes_of-count.ensures;
    } in
    let nodes : Nodes c.args.n.count c.args.k c.choose_both-many.new.w c.choose_both-many.result c.loop-i.i c.loop-node.node c.loop-node.at
    (c.number_of-first.result + c.nodes_of-count.result - c.loop-node.node) c.loop-node.log c.loop-node.w =
    nodes_come coming c.in-Ok.ensures refl c.loop-node.invariant in
    let more : 0 < c.number_of-first.result + c.nodes_of-count.result - c.loop-node.node = omega arith in
    record { noding = (node_asks nodes choice more).1 }

pub undo-requires-in-Err-one_node-clause-m_le_n : goal.undo-requires-in-Err-one_node-clause-m_le_n
undo-requires-in-Err-one_node-clause-m_le_n c =
    let step : Step c.args.n.count c.args.k c.args.w.now c.args.total c.choices.next c.choices.found c.choose_both-many.result
    c.choose_both-many.new.w = record {
      pre = c.requires;
      w = c.choices.w;
      gone = c.choices.invariant;
      some = c.choices-test.true;
      chosen = c.choose_both-many.ensures;
    } in
    let choice : Choice c.args.n.count c.args.k c.choose_both-many.new.w c.choose_both-many.result = step_choice step in
    let coming : Coming c.args.n.count c.args.k c.choose_both-many.new.w c.choose_both-many.result c.loop-i.i c.loop-i.log c.loop-i.w
    c.place_of-g.result c.number_of-first.result c.nodes_of-count.result = record {
      through = c.loop-i.invariant;
      some = c.loop-i-test.true;
      word = c.listed-word.result;
      read = c.listed-word.ensures;
      told = told_new c.is_new.ensures (ap not c.if-not-is_new.false);
      place = c.place_of-g.ensures;
      head = c.loaded-head.result;
      is = c.loaded-head.ensures;
      first = c.number_of-first.ensures;
      nodes = c.nodes_of-count.ensures;
    } in
    let nodes : Nodes c.args.n.count c.args.k c.choose_both-many.new.w c.choose_both-many.result c.loop-i.i c.loop-node.node c.loop-node.at
    (c.number_of-first.result + c.nodes_of-count.result - c.loop-node.node) c.loop-node.log c.loop-node.w =
    nodes_come coming c.in-Ok.ensures refl c.loop-node.invariant in
    let more : 0 < c.number_of-first.result + c.nodes_of-count.result - c.loop-node.node = omega arith in
    let l = joined_later nodes more c.in-Err-one_node.ensures choice in
    omega (arith, l.more)

pub choices-preserved-in-Err-one_node : goal.choices-preserved-in-Err-one_node
choices-preserved-in-Err-one_node c =
    let step : Step c.args.n.count c.args.k c.args.w.now c.args.total c.choices.next c.choices.found c.choose_both-many.result
    c.choose_both-many.new.w = record {
      pre = c.requires;
      w = c.choices.w;
      gone = c.choices.invariant;
      some = c.choices-test.true;
      chosen = c.choose_both-many.ensures;
    } in
    let choice : Choice c.args.n.count c.args.k c.choose_both-many.new.w c.choose_both-many.result = step_choice step in
    let coming : Coming c.args.n.count c.args.k c.choose_both-many.new.w c.choose_both-many.result c.loop-i.i c.loop-i.log c.loop-i.w
    c.place_of-g.result c.number_of-first.result c.nodes_of-count.result = record {
      through = c.loop-i.invariant;
      some = c.loop-i-test.true;
      word = c.listed-word.result;
      read = c.listed-word.ensures;
      told = told_new c.is_new.ensures (ap not c.if-not-is_new.false);
      place = c.place_of-g.ensures;
      head = c.loaded-head.result;
      is = c.loaded-head.ensures;
      first = c.number_of-first.ensures;
      nodes = c.nodes_of-count.ensures;
    } in
    let nodes : Nodes c.args.n.count c.args.k c.choose_both-many.new.w c.choose_both-many.result c.loop-i.i c.loop-node.node c.loop-node.at
    (c.number_of-first.result + c.nodes_of-count.result - c.loop-node.node) c.loop-node.log c.loop-node.w =
    nodes_come coming c.in-Ok.ensures refl c.loop-node.invariant in
    let more : 0 < c.number_of-first.result + c.nodes_of-count.result - c.loop-node.node = omega arith in
    step_clash step (joined_later nodes more c.in-Err-one_node.ensures choice) c.undo-in-Err-one_node.ensures
    (node_clash nodes more c.in-Err-one_node.ensures refl)

pub loaded-requires : goal.loaded-requires
loaded-requires c =
    let step : Step c.args.n.count c.args.k c.args.w.now c.args.total c.choices.next c.choices.found c.choose_both-many.result
    c.choose_both-many.new.w = record {
      pre = c.requires;
      w = c.choices.w;
      gone = c.choices.invariant;
      some = c.choices-test.true;
      chosen = c.choose_both-many.ensures;
    } in
    let choice : Choice c.args.n.count c.args.k c.choose_both-many.new.w c.choose_both-many.result = step_choice step in
    let coming : Coming c.args.n.count c.args.k c.choose_both-many.new.w c.choose_both-many.result c.loop-i.i c.loop-i.log c.loop-i.w
    c.place_of-g.result c.number_of-first.result c.nodes_of-count.result = record {
      through = c.loop-i.invariant;
      some = c.loop-i-test.true;
      word = c.listed-word.result;
      read = c.listed-word.ensures;
      told = told_new c.is_new.ensures (ap not c.if-not-is_new.false);
      place = c.place_of-g.ensures;
      head = c.loaded-head.result;
      is = c.loaded-head.ensures;
      first = c.number_of-first.ensures;
      nodes = c.nodes_of-count.ensures;
    } in
    let nodes : Nodes c.args.n.count c.args.k c.choose_both-many.new.w c.choose_both-many.result c.loop-i.i c.loop-node.node c.loop-node.at
    (c.number_of-first.result + c.nodes_of-count.result - c.loop-node.node) c.loop-node.log c.loop-node.w =
    nodes_come coming c.in-Ok.ensures refl c.loop-node.invariant in
    let more : 0 < c.number_of-first.result + c.nodes_of-count.result - c.loop-node.node = omega arith in
    let l = node_here nodes more c.in-Ok-one_node.ensures choice in
    l.0

pub overflow_add-at-in-loop-node : goal.overflow_add-at-in-loop-node
overflow_add-at-in-loop-node c =
    let step : Step c.args.n.count c.args.k c.args.w.now c.args.total c.choices.next c.choices.found c.choose_both-many.result
    c.choose_both-many.new.w = record {
      pre = c.requires;
      w = c.choices.w;
      gone = c.choices.invariant;
      some = c.choices-test.true;
      chosen = c.choose_both-many.ensures;
    } in
    let choice : Choice c.args.n.count c.args.k c.choose_both-many.new.w c.choose_both-many.result = step_choice step in
    let coming : Coming c.args.n.count c.args.k c.choose_both-many.new.w c.choose_both-many.result c.loop-i.i c.loop-i.log c.loop-i.w
    c.place_of-g.result c.number_of-first.result c.nodes_of-count.result = record {
      through = c.loop-i.invariant;
      some = c.loop-i-test.true;
      word = c.listed-word.result;
      read = c.listed-word.ensures;
      told = told_new c.is_new.ensures (ap not c.if-not-is_new.false);
      place = c.place_of-g.ensures;
      head = c.loaded-head.result;
      is = c.loaded-head.ensures;
      first = c.number_of-first.ensures;
      nodes = c.nodes_of-count.ensures;
    } in
    let nodes : Nodes c.args.n.count c.args.k c.choose_both-many.new.w c.choose_both-many.result c.loop-i.i c.loop-node.node c.loop-node.at
    (c.number_of-first.result + c.nodes_of-count.result - c.loop-node.node) c.loop-node.log c.loop-node.w =
    nodes_come coming c.in-Ok.ensures refl c.loop-node.invariant in
    let more : 0 < c.number_of-first.result + c.nodes_of-count.result - c.loop-node.node = omega arith in
    let room = node_room nodes more c.in-Ok-one_node.ensures choice c.loaded.ensures c.span-at.ensures in
    search rules

pub loop-node-preserved : goal.loop-node-preserved
loop-node-preserved c =
    let more : 0 < c.number_of-first.result + c.nodes_of-count.result - c.loop-node.node = omega arith in
    rw sub-add-eq (onward_turn c.loop-node.invariant more c.in-Ok-one_node.ensures refl c.loaded.ensures c.span-at.ensures)

pub loop-i-preserved : goal.loop-i-preserved
loop-i-preserved c =
    let step : Step c.args.n.count c.args.k c.args.w.now c.args.total c.choices.next c.choices.found c.choose_both-many.result
    c.choose_both-many.new.w = record {
      pre = c.requires;
      w = c.choices.w;
      gone = c.choices.invariant;
      some = c.choices-test.true;
      chosen = c.choose_both-many.ensures;
    } in
    let choice : Choice c.args.n.count c.args.k c.choose_both-many.new.w c.choose_both-many.result = step_choice step in
    let coming : Coming c.args.n.count c.args.k c.choose_both-many.new.w c.choose_both-many.result c.loop-i.i c.loop-i.log c.loop-i.w
    c.place_of-g.result c.number_of-first.result c.nodes_of-count.result = record {
      through = c.loop-i.invariant;
      some = c.loop-i-test.true;
      word = c.listed-word.result;
      read = c.listed-word.ensures;
      told = told_new c.is_new.ensures (ap not c.if-not-is_new.false);
      place = c.place_of-g.ensures;
      head = c.loaded-head.result;
      is = c.loaded-head.ensures;
      first = c.number_of-first.ensures;
      nodes = c.nodes_of-count.ensures;
    } in
    let nodes : Nodes c.args.n.count c.args.k c.choose_both-many.new.w c.choose_both-many.result c.loop-i.i c.loop-node.node c.loop-node.at
    (c.number_of-first.result + c.nodes_of-count.result - c.loop-node.node) c.loop-node.log c.loop-node.w =
    nodes_come coming c.in-Ok.ensures refl c.loop-node.invariant in
    through_next nodes choice (omega arith)

pub light_taken-requires : goal.light_taken-requires
light_taken-requires c =
    let step : Step c.args.n.count c.args.k c.args.w.now c.args.total c.choices.next c.choices.found c.choose_both-many.result
    c.choose_both-many.new.w = record {
      pre = c.requires;
      w = c.choices.w;
      gone = c.choices.invariant;
      some = c.choices-test.true;
      chosen = c.choose_both-many.ensures;
    } in
    step_lights step c.loop-i.invariant.later c.undo-in-choices.ensures

pub choices-preserved : goal.choices-preserved
choices-preserved c =
    let step : Step c.args.n.count c.args.k c.args.w.now c.args.total c.choices.next c.choices.found c.choose_both-many.result
    c.choose_both-many.new.w = record {
      pre = c.requires;
      w = c.choices.w;
      gone = c.choices.invariant;
      some = c.choices-test.true;
      chosen = c.choose_both-many.ensures;
    } in
    step_more step c.loop-i.invariant.later c.undo-in-choices.ensures
    (through_agrees c.loop-i.invariant (omega arith)) c.light_taken.ensures

pub returns : goal.returns
returns c =
    searches c.requires c.choices.invariant (omega arith)
