-- `library::list::fill_list` meets its contract: the entries so far stand at the start.
-- Assumes nothing.
use native.Mathlib.Omega.{arith}
use Rattle.library.proofs.Listing.{list_none, list_step}
use Rattle.library.proofs.list.fill_list.Goals as goal

pub loop-i-init : goal.loop-i-init
loop-i-init c = list_none c.args.start.now c.args.dst.now

pub loop-i-preserved : goal.loop-i-preserved
loop-i-preserved c =
    rw c.read_pair.ensures.0 (rw c.read_pair-in-loop-i.ensures.0 (rw c.entry_at-at.ensures
    (list_step c.args.start.now c.loop-i.i c.loop-i.dst c.args.dst.now (omega arith) c.loop-i.invariant)))
