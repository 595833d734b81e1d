-- `choosing::word::is_new` meets its contract. Assumes nothing.
use Rattle.choosing.proofs.Words.{word_told}
use Rattle.choosing.proofs.word.is_new.Goals as goal

pub returns : goal.returns
returns c k h e = (word_told _ k h e).new
