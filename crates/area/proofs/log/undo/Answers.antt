-- `area::log::undo` meets its contract. The loop's invariant: the entries from k on are taken back. Assumes nothing.
use native.Mathlib.Omega.{arith}
use Rattle.area.proofs.Undo.{going_start, going_back, going_done}
use Rattle.area.proofs.log.undo.Goals as goal

pub loop-k-init : goal.loop-k-init
loop-k-init c = (c.requires.m_le_n, going_start _ _)

pub loop-k-preserved : goal.loop-k-preserved
loop-k-preserved c = (omega arith, rw c.wide-i.ensures (going_back c.loop-k.k c.args.n c.args.w.now c.loop-k.w c.loop-k.invariant.1 (omega arith) (omega arith)))

pub returns : goal.returns
returns c = going_done _ _ _ _ _ c.loop-k.invariant.1 (omega arith)
