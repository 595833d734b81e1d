use mathlib.Core.Path.{◌≡◌}
use mathlib.Core.List.{List}
use Prim.Native.Nat.{ℕ, ◌<◌}
use lib.ListN.{get_or}
use Rattle.forest.specs.Forest.{Forest, parents}
use Rattle.forest.proofs.Wood.{climb}
use Rattle.forest.proofs.forest.find.Given as goal

abbrev pub invariant-loop-p : goal.invariant-loop-p
invariant-loop-p l = ((l.x < l.n.count) × (l.p < l.n.count))
    × ((l.p ≡ get_or (parents l.n.count l.w) l.x 0) × ((L : List ℕ) → Forest (parents l.n.count l.w) L → get_or L l.i 0 ≡ get_or L l.x 0))

abbrev pub decreases-loop-p : goal.decreases-loop-p
decreases-loop-p l = climb 10 (parents l.n.count l.w) l.x
