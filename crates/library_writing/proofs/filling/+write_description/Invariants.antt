use lib.ListN.{length}
use Rattle.library_writing.proofs.filling.+write_description.Given as goal

abbrev pub decreases-write_description : goal.decreases-write_description
decreases-write_description l = length l.words.now
