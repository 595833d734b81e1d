use Prim.Native.Nat.{◌≤◌}
use Rattle.area.proofs.Undo.{Going}
use Rattle.area.proofs.log.undo.Given as goal

abbrev pub invariant-loop-k : goal.invariant-loop-k
invariant-loop-k l = (l.m ≤ l.k) × Going l.k l.n l.initial.w l.w
