-- `marks::positions::after_at` meets its contract. Assumes nothing.
use mathlib.Core.Path.{ap, ◌∙◌}
use Rattle.marks.specs.Positions.{end_at, after_at}
use Rattle.marks.proofs.positions.after_at.Goals as goal

pub returns : goal.returns
unfolding after_at
returns c = c.end_at.ensures ∙ ap (end_at c.args.w.now) c.tail_at.ensures
