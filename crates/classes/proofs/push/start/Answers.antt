-- `classes::push::start` meets its contract. The loop's invariant: the body is set up to i. Assumes nothing.
use Prim.Native.Nat.{ℕ}
use mathlib.Core.Path.{◌≡◌, subst}
use native.Mathlib.Omega.{arith}
use Rattle.classes.proofs.Start.{Started, starts}
use Rattle.classes.proofs.push.start.Goals as goal

pub returns : goal.returns
returns c =
    let e : c.loop-i.i ≡ 1024 = omega arith in
    starts c.args.w.now c.loop-i.w (omega arith) (subst (λ (z : ℕ). Started c.args.w.now z c.loop-i.w) e c.loop-i.invariant)
