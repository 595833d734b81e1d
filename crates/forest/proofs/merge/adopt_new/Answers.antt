-- `forest::merge::adopt_new` meets its contract. Assumes nothing.
use native.Mathlib.Omega.{arith}
use Rattle.forest.proofs.Turns.{joined_up, joined_down}
use Rattle.forest.proofs.Itself.{itself_root, itself_fusing}
use mathlib.Core.Bool.{false}
use Rattle.forest.proofs.merge.adopt_new.Goals as goal

pub take_in-requires : goal.take_in-requires
take_in-requires c =
    let itself = c.is_by_itself.ensures c.if-is_by_itself.true in record {
      fusing = (
        itself_fusing c.args.n.count c.args.w.now c.args.n.in_area (omega arith) c.args.y c.requires.x_lt_n.1 itself c.args.x c.find-a.result c.find-a.ensures
            c.if-a-y.true,
        itself,
      );
      some_state = c.requires.some_state;
    }

pub returns-then-a-y : goal.returns-then-a-y
returns-then-a-y c =
    let itself = c.is_by_itself.ensures c.if-is_by_itself.true in
    joined_up c.args.n.count c.args.k c.args.s c.args.w.now c.args.x c.args.y c.requires.x_lt_n.0 c.requires.x_lt_n.1 c.args.n.in_area (omega arith) c.find-a.result c.args.y
    c.find-a.ensures (itself_root c.args.n.count c.args.w.now c.args.n.in_area (omega arith) c.args.y c.requires.x_lt_n.1 itself) c.take_in.result c.args.s false c.take_in.new.w c.take_in.ensures

pub take_in-requires-then-b-x : goal.take_in-requires-then-b-x
take_in-requires-then-b-x c =
    let itself = c.is_by_itself-2.ensures c.if-is_by_itself-2.true in record {
      fusing = (
        itself_fusing c.args.n.count c.args.w.now c.args.n.in_area (omega arith) c.args.x c.requires.x_lt_n.0 itself c.args.y c.find-b.result c.find-b.ensures
            c.if-b-x.true,
        itself,
      );
      some_state = c.requires.some_state;
    }

pub returns-then-b-x : goal.returns-then-b-x
returns-then-b-x c =
    let itself = c.is_by_itself-2.ensures c.if-is_by_itself-2.true in
    joined_down c.args.n.count c.args.k c.args.s c.args.w.now c.args.x c.args.y c.requires.x_lt_n.0 c.requires.x_lt_n.1 c.args.n.in_area (omega arith) c.args.x c.find-b.result
    (itself_root c.args.n.count c.args.w.now c.args.n.in_area (omega arith) c.args.x c.requires.x_lt_n.0 itself) c.find-b.ensures c.take_in-then-b-x.result c.args.s false c.take_in-then-b-x.new.w c.take_in-then-b-x.ensures
