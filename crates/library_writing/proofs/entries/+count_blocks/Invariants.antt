use lib.ListN.{length}
use Rattle.library_writing.proofs.entries.+count_blocks.Given as goal

abbrev pub decreases-count_blocks : goal.decreases-count_blocks
decreases-count_blocks l = length l.entries.now
