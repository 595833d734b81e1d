-- `classes::visit::follow` meets its contract. Assumes nothing.
use mathlib.Core.Logic.{inl}
use Prim.Native.Nat.{◌+◌}
use native.Mathlib.Omega.{arith}
use Rattle.area.specs.Map.{NEXT}
use Rattle.area.proofs.Undo.{put_at, put_off}
use Rattle.classes.proofs.visit.follow.Goals as goal

pub returns : goal.returns
returns c =
    record {
      later = c.put.ensures.later;
      few = omega arith;
      none = λ z. absurd (c.if-y-eq0.false z);
      at = put_at c.args.k c.args.w.now (NEXT + c.args.t) c.args.y c.put.result c.put.new.w c.put.ensures (omega arith) (omega arith);
      rest = λ j h d. put_off c.args.k c.args.w.now (NEXT + c.args.t) c.args.y c.put.result c.put.new.w c.put.ensures (omega arith) j d (inl h);
    }
