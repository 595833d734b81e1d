-- `fit::sending::find` meets its contract: the arcs passed have lower features.
-- Assumes nothing.
use Prim.Native.Nat.{◌-◌, ◌*◌}
use native.Mathlib.Omega.{arith}
use Rattle.fit.proofs.Finding.{look_none, look_high, look_hit, look_on}
use Rattle.fit.proofs.sending.find.Goals as goal

pub returns-then-feature-here : goal.returns-then-feature-here
returns-then-feature-here c = look_high _ _ _ _ _ c.loop-left.invariant _ (omega arith) (omega arith) c.if-feature-here.true

pub returns-then-feature-here-2 : goal.returns-then-feature-here-2
returns-then-feature-here-2 c = look_hit _ _ _ _ _ c.loop-left.invariant _ (omega arith) (omega arith) c.if-feature-here-2.true

pub loop-left-preserved : goal.loop-left-preserved
loop-left-preserved c =
    look_on _ _ _ _ _ c.loop-left.invariant (c.args.end - 2 * c.wide.result) (omega arith) (omega arith) (omega arith)

pub returns : goal.returns
returns c = look_none _ _ _ _ _ c.loop-left.invariant (omega arith)
