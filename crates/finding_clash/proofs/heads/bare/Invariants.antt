use Prim.Native.Nat.{◌+◌, ◌-◌}
use mathlib.Core.Path.{◌≡◌}
use lib.ListN.{length}
use Rattle.area.specs.Map.{SIZE}
use Rattle.finding_clash.proofs.Baring.{BareOnward}
use Rattle.finding_clash.proofs.heads.bare.Given as goal

abbrev pub invariant-loop-node : goal.invariant-loop-node
invariant-loop-node l = (length l.w ≡ SIZE) × BareOnward l.p l.count l.i l.initial.w l.at (l.i + l.count - l.node) l.node l.w
