use Prim.Native.Nat.{◌+◌, ◌*◌, ◌-◌}
use mathlib.Core.Path.{◌≡◌}
use Rattle.library.specs.Check.{holder_of}
use Rattle.library.proofs.survey.find_holder.Given as goal

abbrev pub invariant-loop-i : goal.invariant-loop-i
invariant-loop-i l = holder_of l.k l.count 2 l.start ≡ holder_of l.k (l.count - l.i) (2 + 8 * l.i) l.start
