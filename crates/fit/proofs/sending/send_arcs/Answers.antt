-- `fit::sending::send_arcs` meets its contract: what is left of the arcs goes on to send them all.
-- Assumes nothing.
use Prim.Native.Nat.{◌+◌, ◌-◌}
use native.Mathlib.Omega.{arith}
use native.Mathlib.Nat.{sub-zero}
use mathlib.Core.Path.{◌≡◌}
use Rattle.fit.proofs.Arcwise.{arcwise_start, arcwise_end, arcwise_next, arcwise_none, arcwise_stop, arcwise_step}
use Rattle.fit.proofs.sending.send_arcs.Goals as goal

pub loop-init : goal.loop-init
loop-init c = rw sub-zero (arcwise_start _ _ _ _ _ _ _ _ c.requires)

pub returns-in_err-found : goal.returns-in_err-found
returns-in_err-found c =
    rw c.from_residual.ensures (arcwise_none _ _ _ _ _ _ _ _ _ _ _ _ c.loop.invariant (omega arith) _ c.in_err-found.was c.find.ensures)

pub send-requires : goal.send-requires
send-requires c = arcwise_next _ _ _ _ _ _ _ _ _ _ _ _ c.loop.invariant (omega arith)

pub returns-in_err-met : goal.returns-in_err-met
returns-in_err-met c =
    rw c.from_residual-in_err-met.ensures (arcwise_stop _ _ _ _ _ _ _ _ _ _ _ _ c.loop.invariant (omega arith) _ _ _ c.in_ok-found.was
    c.find.ensures _ _ _ c.in_err-met.was c.send.ensures)

pub loop-preserved : goal.loop-preserved
loop-preserved c =
    let e : c.args.count - (c.loop.counter + 1) ≡ c.args.count - c.loop.counter - 1 = omega arith in
    rw e (arcwise_step _ _ _ _ _ _ _ _ _ _ _ _ c.loop.invariant (omega arith) _ _ _ c.in_ok-found.was c.find.ensures _ _ _
    c.in_ok-met.was c.send.ensures)

pub returns : goal.returns
returns c = arcwise_end _ _ _ _ _ _ _ _ _ _ _ _ c.loop.invariant (omega arith)
