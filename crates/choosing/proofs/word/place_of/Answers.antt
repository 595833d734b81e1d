-- `choosing::word::place_of` meets its contract. Assumes nothing.
use native.Mathlib.Omega.{arith}
use mathlib.Core.Path.{◌∙◌}
use Rattle.choosing.proofs.Words.{word_told}
use Rattle.choosing.proofs.word.place_of.Goals as goal

pub returns-then-word-lt-NEW : goal.returns-then-word-lt-NEW
returns-then-word-lt-NEW c k h e = c.wide.ensures ∙ (word_told _ k h e).low (omega arith)

pub returns-else-word-lt-NEW : goal.returns-else-word-lt-NEW
returns-else-word-lt-NEW c k h e = c.wide-else-word-lt-NEW.ensures ∙ (word_told _ k h e).high (omega arith)
