use Prim.Native.Nat.{◌<◌}
use mathlib.Core.Path.{◌≡◌}
use lib.ListN.{drop}
use Rattle.blocks.specs.Block.{sums}
use Rattle.blocks.proofs.sums_over.Given as goal

abbrev pub invariant-loop-byte : goal.invariant-loop-byte
invariant-loop-byte l = (l.first < 65535) × ((l.second < 65535) × (sums 0 0 l.bytes ≡ sums l.first l.second (drop l.byte-index l.bytes)))
