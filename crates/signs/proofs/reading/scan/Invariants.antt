use Rattle.signs.proofs.Going.{Going}
use Rattle.signs.proofs.reading.scan.Given as goal

-- the bytes so far were gone over
abbrev pub invariant-loop-at : goal.invariant-loop-at
invariant-loop-at l = Going l.text l.signs l.place l.groups l.count l.at
