-- `plain::light::light_taken` meets its contract. The loop's invariant: the first i are lit. Assumes nothing.
use native.Mathlib.Omega.{arith}
use Rattle.plain.proofs.Lit.{litup_none, litup_asks, litup_more, litup_done}
use Rattle.plain.proofs.light.light_taken.Goals as goal

pub loop-i-init : goal.loop-i-init
loop-i-init c = litup_none _ _

pub listed-requires : goal.listed-requires
listed-requires c =
    omega (arith, c.requires.few)

pub mark_at-x-requires : goal.mark_at-x-requires
mark_at-x-requires c = let old : _ × _ = litup_asks c.loop-i.invariant
    c.requires c.loop-i-test.true
    c.listed.ensures c.place_of-g.ensures in record { p_bound = old.0.0; p_bound_2 = old.1 }

pub light-requires : goal.light-requires
light-requires c =
    c.mark_at-x.ensures.1

pub loop-i-preserved : goal.loop-i-preserved
loop-i-preserved c =
    litup_more c.loop-i.invariant c.loop-i-test.true c.listed.ensures
    c.place_of-g.ensures c.mark_at-x.ensures
    c.light.ensures

pub returns : goal.returns
returns c = litup_done c.loop-i.invariant (omega arith)
