-- `marks::positions::number_at` meets its contract. Assumes nothing.
use borrow.Author.Rules.{rules}
use Rattle.marks.specs.Positions.{number_at}
use Rattle.marks.proofs.positions.number_at.Goals as goal

pub returns : goal.returns
unfolding number_at
returns c = search rules
