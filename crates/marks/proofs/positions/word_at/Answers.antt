-- `marks::positions::word_at` meets its contract. Assumes nothing.
use mathlib.Core.Path.{sym}
use Rattle.area.proofs.Region.{word_at}
use Rattle.marks.proofs.positions.word_at.Goals as goal

pub returns : goal.returns
returns c = sym (word_at c.args.w.now c.args.p c.requires)
