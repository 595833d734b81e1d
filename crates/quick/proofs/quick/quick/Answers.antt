-- `quick::quick::quick` meets its contract: passes go on to the whole, and each but the last drops an alternative.
-- Assumes nothing.
use mathlib.Core.Path.{◌∙◌}
use Rattle.quick.proofs.Rounds.{rounds_start, rounds_asks, rounds_undo, quick_fails, rounds_on, rounds_less}
use Rattle.quick.proofs.Rounds.{quick_stands}
use Rattle.quick.proofs.quick.quick.Goals as goal

pub loop-again-init : goal.loop-again-init
loop-again-init c = rounds_start _ _ _ c.requires

pub pass-requires : goal.pass-requires
pass-requires c = rounds_asks _ _ _ c.requires _ _ _ c.loop-again.invariant

pub back-requires : goal.back-requires
back-requires c = rounds_undo _ _ _ _ _ _ c.loop-again.invariant _ _
    c.pass.ensures c.in_default.is

pub returns-in_default : goal.returns-in_default
returns-in_default c = quick_fails _ _ _ _ _ _ c.loop-again.invariant _
    _ c.pass.ensures
    c.in_default.is _ c.back.ensures

pub loop-again-smaller : goal.loop-again-smaller
loop-again-smaller c = rounds_less _ _ _ _ _ _ c.loop-again.invariant _ _
    c.pass.ensures _ _ c.in-Some.is
    c.loop-again-test.true

pub loop-again-preserved : goal.loop-again-preserved
loop-again-preserved c = rounds_on _ _ _ _ _ _ c.loop-again.invariant _ _
    c.pass.ensures _ _ c.in-Some.is

pub returns : goal.returns
returns c = quick_stands _ _ _ _ _ _ c.loop-again.invariant c.loop-again-test.false
