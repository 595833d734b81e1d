use Rattle.folding.proofs.Ending.{Backwards}
use Rattle.folding.proofs.buffer.put_all.Given as goal

abbrev pub invariant-loop-x : goal.invariant-loop-x
invariant-loop-x l = (goal.iterator-loop-x).can_next l.x-iterator × (goal.iterator-loop-x).is_finite l.x-iterator
    × Backwards l.initial.b l.len l.xs l.x-iterator.iter.rest.now l.b l.at
