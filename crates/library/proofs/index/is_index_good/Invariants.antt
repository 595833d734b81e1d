use Prim.Native.Nat.{◌+◌, ◌*◌, ◌-◌, ◌≤◌}
use mathlib.Core.Path.{◌≡◌}
use Rattle.library.specs.Index.{index_good}
use Rattle.library.proofs.index.is_index_good.Given as goal

abbrev pub invariant-loop-i : goal.invariant-loop-i
invariant-loop-i l = (l.next ≤ 1 + 65536 * l.i) × ((l.low ≤ 65536) × (index_good l.count 0 1 2 l.start l.total ≡ index_good (l.count - l.i) l.low l.next (2 + 8 * l.i) l.start l.total))
