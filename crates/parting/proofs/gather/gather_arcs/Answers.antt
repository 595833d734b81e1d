-- `parting::gather::gather_arcs` meets its contract. Assumes nothing.
use native.Mathlib.Omega.{arith}
use Rattle.parting.proofs.Gathered.{arcs_more, arcs_less}
use Rattle.parting.proofs.gather.gather_arcs.Goals.{then-belongs, else-belongs}
use Rattle.parting.proofs.gather.gather_arcs.Goals as goal

pub loop-i-preserved : goal.loop-i-preserved
loop-i-preserved c = elim c.if-belongs.branch [
  | then-belongs w ↦ arcs_more _ _ _ _ _ _ _ _ _ _ _ _ _ c.loop-i.invariant (omega arith) (omega arith)
      (c.belongs.ensures.holds w.if-belongs.true) w.out-is w.ends-is w.n-is
  | else-belongs w ↦ arcs_less _ _ _ _ _ _ _ _ _ _ _ _ _ c.loop-i.invariant
      (c.belongs.ensures.fails w.if-belongs.false) w.out-is w.ends-is w.n-is
]
