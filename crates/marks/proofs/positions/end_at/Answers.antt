-- `marks::positions::end_at` meets its contract. Assumes nothing.
use borrow.Author.Rules.{rules}
use Rattle.marks.specs.Positions.{end_at}
use Rattle.marks.proofs.positions.end_at.Goals as goal

pub returns : goal.returns
unfolding end_at
returns c = search rules
