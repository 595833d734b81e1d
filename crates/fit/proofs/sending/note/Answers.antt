-- `fit::sending::note` meets its contract: the nodes passed are noted.
-- Assumes nothing.
use native.Mathlib.Omega.{arith}
use Rattle.fit.proofs.Noting.{noting_start, noting_there, noting_step, noting_end}
use Rattle.fit.proofs.sending.note.Goals as goal

pub loop-i-init : goal.loop-i-init
loop-i-init c = noting_start _ _ c.requires (omega arith)

pub bounds-structure-wide : goal.bounds-structure-wide
bounds-structure-wide c = omega (arith, noting_there _ _ _ _ c.loop-i.invariant (omega arith) _ c.wide.ensures)

pub overflow_add-at : goal.overflow_add-at
overflow_add-at c = omega (arith, noting_there _ _ _ _ c.loop-i.invariant (omega arith) _ c.wide.ensures)

pub overflow_mul-at : goal.overflow_mul-at
overflow_mul-at c = omega (arith, noting_there _ _ _ _ c.loop-i.invariant (omega arith) _ c.wide.ensures)

pub overflow_add-at-in-loop-i : goal.overflow_add-at-in-loop-i
overflow_add-at-in-loop-i c = omega (arith, noting_there _ _ _ _ c.loop-i.invariant (omega arith) _ c.wide.ensures)

pub loop-i-preserved : goal.loop-i-preserved
loop-i-preserved c = noting_step _ _ _ _ c.loop-i.invariant (omega arith) _ _ c.wide.ensures c.arcs_in.ensures

pub returns : goal.returns
returns c = noting_end _ _ _ _ c.loop-i.invariant (omega arith) c.requires
