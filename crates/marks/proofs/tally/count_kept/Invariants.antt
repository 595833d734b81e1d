use Prim.Native.Nat.{◌-◌, ◌≤◌}
use Rattle.marks.specs.Readable.{Alternatives}
use Rattle.marks.proofs.Tallying.{Tallying}
use Rattle.marks.proofs.tally.count_kept.Given as goal

abbrev pub invariant-loop : goal.invariant-loop
invariant-loop l = ((s : Alternatives l.w l.p l.count) → Tallying l.w l.p l.count s (l.count - l.counter) l.at l.first l.found)
    × (l.found ≤ l.counter)
