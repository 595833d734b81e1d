use lib.ListN.{length}
use Rattle.library_writing.proofs.entries.+is_sound.Given as goal

abbrev pub decreases-is_sound : goal.decreases-is_sound
decreases-is_sound l = length l.entries.now
