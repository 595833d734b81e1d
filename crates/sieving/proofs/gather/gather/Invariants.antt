use mathlib.Core.Path.{◌≡◌}
use lib.ListN.{length}
use Rattle.forest.proofs.Steps.{steps}
use Rattle.sieving.proofs.Gathering.{Noting}
use Rattle.sieving.proofs.gather.gather.Given as goal

abbrev pub invariant-loop-y : goal.invariant-loop-y
invariant-loop-y l = (length l.t ≡ length l.initial.t) × Noting l.w l.t l.x l.y

abbrev pub decreases-loop-y : goal.decreases-loop-y
decreases-loop-y l = steps 2048 l.w l.y
