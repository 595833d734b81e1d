use Prim.Native.Nat.{◌-◌}
use Prim.Native.Nat.{ℕ}
use Rattle.marks.specs.Readable.{Readable}
use Rattle.showing.proofs.Looking.{Going}
use Rattle.showing.proofs.lone.lone.Given as goal

abbrev pub invariant-loop : goal.invariant-loop
invariant-loop l = (left : ℕ) (d : Readable l.w l.g left) → Going l.w l.g left d (l.more - l.counter) l.at
