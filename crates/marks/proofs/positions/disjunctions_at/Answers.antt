-- `marks::positions::disjunctions_at` meets its contract. Assumes nothing.
use borrow.Author.Rules.{rules}
use Rattle.marks.specs.Positions.{disjunctions_at}
use Rattle.marks.proofs.positions.disjunctions_at.Goals as goal

pub returns : goal.returns
unfolding disjunctions_at
returns c = search rules
