use lib.ListN.{length}
use Rattle.library_writing.proofs.write.+write_bodies.Given as goal

abbrev pub decreases-write_bodies : goal.decreases-write_bodies
decreases-write_bodies l = length l.entries.now
