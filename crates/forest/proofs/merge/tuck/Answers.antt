-- `forest::merge::tuck` meets its contract. Assumes nothing.
use native.Mathlib.Omega.{arith}
use Rattle.forest.proofs.Cases.{linking, plain}
use Rattle.forest.proofs.merge.tuck.Goals as goal

pub link-requires : goal.link-requires
link-requires c =
    record {
      linking = linking c.args.n.count c.args.k c.args.s c.args.w.now c.args.a c.args.b c.requires.fusing c.args.n.in_area (omega arith) c.requires.some_state;
    }

pub returns : goal.returns
returns c =
    plain c.args.n.count c.args.k c.args.s c.args.w.now c.args.a c.args.b c.requires.fusing c.args.n.in_area (omega arith) c.requires.some_state c.link.result c.link.new.w c.link.ensures
    c.requires.covered
