-- `parting::gather::mark_trail` meets its contract. Assumes nothing.
use native.Mathlib.Omega.{arith}
use Rattle.parting.proofs.Marked.{halves_start, halves_more, halves_end}
use Rattle.parting.proofs.gather.mark_trail.Goals as goal

pub loop-s-init : goal.loop-s-init
loop-s-init c = halves_start _ _ _ c.requires

pub loop-s-preserved : goal.loop-s-preserved
loop-s-preserved c = halves_more _ _ _ _ _ c.requires c.loop-s.invariant c.loop-s-test.true _ c.spot-s.ensures

pub returns : goal.returns
returns c = halves_end _ _ _ _ _ c.loop-s.invariant (omega arith)
