use Prim.Native.Nat.{◌-◌}
use Prim.Native.Nat.{◌+◌, ◌*◌}
use mathlib.Core.Path.{◌≡◌}
use lib.ListN.{length}
use Rattle.marks.specs.Marked.{marking}
use Rattle.sieving.specs.Sieved.{Sieved}
use Rattle.entering.specs.Settled.{Alternating}
use Rattle.quick.specs.Stepped.{Fewer, Narrowing}
use Rattle.entering.specs.Moved.{Moved}
use Rattle.quick.proofs.Sifting.{Sifting}
use Rattle.quick.proofs.Narrowing.{Going}
use Rattle.quick.proofs.narrow.+narrow_narrow_one_sift_try_one.Given as goal

abbrev pub decreases-narrow : goal.decreases-narrow
decreases-narrow l = 4 * l.left

abbrev pub decreases-narrow_one : goal.decreases-narrow_one
decreases-narrow_one l = 4 * l.left + 3

abbrev pub decreases-sift : goal.decreases-sift
decreases-sift l = 4 * l.left + 2

abbrev pub decreases-try_one : goal.decreases-try_one
decreases-try_one l = 4 * l.left + 1

abbrev pub invariant-narrow-loop : goal.invariant-narrow-loop
invariant-narrow-loop l =
    Moved l.k l.initial.w l.log l.w × Fewer l.drops (marking l.initial.w) (marking l.w) × ((c : Narrowing l.n.count l.k l.initial.w l.g l.left) → Going l.n.count l.k l.initial.w l.g l.left c (l.more - l.counter) l.at l.log l.w)
    × (length l.t ≡ 256) × Sieved l.n.count l.w l.t

abbrev pub invariant-sift-loop : goal.invariant-sift-loop
invariant-sift-loop l =
    Moved l.k l.initial.w l.k l.w × Fewer l.drops (marking l.initial.w) (marking l.w)
    × ((c : Alternating l.n.count l.k l.initial.w l.p l.count l.left) → Sifting l.n.count l.k l.initial.w l.p l.count l.left c (l.count - l.counter) l.at l.w)
