use lib.ListN.{length}
use Rattle.library_writing.proofs.write.+write_index.Given as goal

abbrev pub decreases-write_index : goal.decreases-write_index
decreases-write_index l = length l.entries.now
