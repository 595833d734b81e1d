use Rattle.translate.proofs.Filling.{OwnTo}
use Rattle.translate.proofs.homes.own_homes.Given as goal

abbrev pub invariant-loop-i : goal.invariant-loop-i
invariant-loop-i l = OwnTo l.homes l.i
