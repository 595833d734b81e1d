-- `fit::testing::skip_alternatives` meets its contract: where those that are left end, all do.
-- Assumes nothing.
use Prim.Native.Nat.{◌+◌, ◌-◌}
use native.Mathlib.Omega.{arith}
use mathlib.Core.Path.{◌≡◌}
use Rattle.fit.proofs.Alternatives.{skips_end, skips_step}
use Rattle.fit.proofs.testing.skip_alternatives.Goals as goal

pub loop-preserved : goal.loop-preserved
loop-preserved c =
    let e : c.args.count - (c.loop.counter + 1) ≡ c.args.count - c.loop.counter - 1 = omega arith in
    rw e (λ r s. c.loop.invariant r (skips_step _ _ _ _ r (omega arith) c.skip_description-at.ensures s))

pub returns : goal.returns
returns c = c.loop.invariant _ (skips_end _ _ _ (omega arith))
