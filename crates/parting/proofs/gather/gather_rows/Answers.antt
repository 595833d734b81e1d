-- `parting::gather::gather_rows` meets its contract. Assumes nothing.
use native.Mathlib.Omega.{arith}
use Rattle.parting.proofs.Gathered.{gathers_more, gathers_less}
use Rattle.parting.proofs.gather.gather_rows.Goals.{then-comes, else-comes}
use Rattle.parting.proofs.gather.gather_rows.Goals as goal

pub loop-i-preserved : goal.loop-i-preserved
loop-i-preserved c = elim c.if-comes.branch [
  | then-comes w ↦ gathers_more _ _ _ _ _ _ _ _ _ c.loop-i.invariant (omega arith)
      (c.comes.ensures.holds w.if-comes.true) w.out-is w.n-is
  | else-comes w ↦ gathers_less _ _ _ _ _ _ _ _ _ c.loop-i.invariant
      (c.comes.ensures.fails w.if-comes.false) w.out-is w.n-is
]
