-- `marks::positions::tail_at` meets its contract. Assumes nothing.
use borrow.Author.Rules.{rules}
use Rattle.marks.specs.Positions.{tail_at}
use Rattle.marks.proofs.positions.tail_at.Goals as goal

pub returns : goal.returns
unfolding tail_at
returns c = search rules
