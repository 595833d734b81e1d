-- `library::read::fill` meets its contract: the words so far stand at the start.
-- Assumes nothing.
use Rattle.library.proofs.Reading.{fill_none, fill_step}
use Rattle.library.proofs.read.fill.Goals as goal

pub loop-i-init : goal.loop-i-init
loop-i-init c = fill_none c.args.file.now c.args.first c.args.dst.now

pub loop-i-preserved : goal.loop-i-preserved
loop-i-preserved c = rw c.read_word.ensures (fill_step c.args.file.now c.args.first c.loop-i.i c.loop-i.dst c.args.dst.now c.loop-i-test.true c.loop-i.invariant)
