use Prim.Native.Nat.{◌+◌, ◌*◌, ◌-◌}
use mathlib.Core.Path.{◌≡◌}
use Rattle.library.specs.Index.{found}
use Rattle.library.proofs.index.find.Given as goal

abbrev pub invariant-loop-i : goal.invariant-loop-i
invariant-loop-i l = found l.identifier l.count 2 l.start ≡ found l.identifier (l.count - l.i) (2 + 8 * l.i) l.start
