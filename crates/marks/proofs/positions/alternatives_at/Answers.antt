-- `marks::positions::alternatives_at` meets its contract. Assumes nothing.
use borrow.Author.Rules.{rules}
use Rattle.marks.specs.Positions.{alternatives_at}
use Rattle.marks.proofs.positions.alternatives_at.Goals as goal

pub returns : goal.returns
unfolding alternatives_at
returns c = search rules
