use Prim.Native.Nat.{◌*◌}
use mathlib.Core.Path.{◌≡◌}
use mathlib.Core.List.{◌++◌}
use lib.ListN.{drop}
use Rattle.library.specs.Contents.{listing}
use Rattle.library.proofs.list.fill_list.Given as goal

abbrev pub invariant-loop-i : goal.invariant-loop-i
invariant-loop-i l = l.dst ≡ listing l.i 2 l.start ++ drop (2 * l.i) l.initial.dst
