use Prim.Native.Nat.{◌+◌, ◌-◌, ◌<◌}
use mathlib.Core.Path.{◌≡◌}
use Rattle.library.specs.Index.{room_of}
use Rattle.library.specs.Read.{whole_blocks}
use Rattle.library.proofs.read.is_whole.Given as goal

abbrev pub invariant-loop-k : goal.invariant-loop-k
invariant-loop-k l = (l.rest < 65536) × (whole_blocks (room_of l.words) l.first l.words l.file ≡ whole_blocks ((l.first + room_of l.words) - l.k) l.k l.rest l.file)
