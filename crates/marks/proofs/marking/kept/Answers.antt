-- `marks::marking::kept` meets its contract. Assumes nothing.
use mathlib.Core.Path.{sym}
use Rattle.marks.proofs.Marks.{mark_at}
use Rattle.marks.proofs.marking.kept.Goals as goal

pub returns : goal.returns
returns c = sym (mark_at c.args.w.now c.args.x c.requires)
