use Rattle.folding.proofs.Moving.{Rehomed}
use Rattle.folding.proofs.settle.move_home.Given as goal

abbrev pub invariant-loop-home : goal.invariant-loop-home
invariant-loop-home l = Rehomed l.initial.homes l.x l.k l.home-index l.homes
