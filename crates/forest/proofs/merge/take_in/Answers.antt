-- `forest::merge::take_in` meets its contract. Assumes nothing.
use native.Mathlib.Omega.{arith}
use mathlib.Core.Logic.{inl}
use Rattle.forest.proofs.Cases.{linking, plain}
use Rattle.forest.proofs.merge.take_in.Goals as goal

pub adopt-requires : goal.adopt-requires
adopt-requires c =
    record {
      linking = (linking c.args.n.count c.args.k c.args.s c.args.w.now c.args.a c.args.b c.requires.fusing.0 c.args.n.in_area (omega arith) c.requires.some_state, c.requires.fusing.1);
    }

pub returns : goal.returns
returns c =
    plain c.args.n.count c.args.k c.args.s c.args.w.now c.args.a c.args.b c.requires.fusing.0 c.args.n.in_area (omega arith) c.requires.some_state c.adopt.result c.adopt.new.w c.adopt.ensures
    (inl c.requires.fusing.1.empty)
