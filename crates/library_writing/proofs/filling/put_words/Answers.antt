-- `library_writing::filling::put_words` meets its contract: the words so far stand at the start.
-- Assumes nothing.
use native.Mathlib.Omega.{arith}
use Rattle.library_writing.proofs.Poured.{no_words, one_word}
use Rattle.library_writing.proofs.filling.put_words.Goals as goal

pub loop-i-init : goal.loop-i-init
loop-i-init c = no_words c.args.bytes.now c.args.words.now

pub loop-i-preserved : goal.loop-i-preserved
loop-i-preserved c = one_word c.loop-i.bytes c.put_word.new.bytes c.args.words.now c.loop-i.i (omega arith) (omega arith) c.loop-i.invariant c.put_word.ensures
