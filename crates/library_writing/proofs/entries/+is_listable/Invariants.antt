use lib.ListN.{length}
use Rattle.library_writing.proofs.entries.+is_listable.Given as goal

abbrev pub decreases-is_listable : goal.decreases-is_listable
decreases-is_listable l = length l.entries.now
