use mathlib.Core.Path.{◌≡◌}
use lib.ListN.{length}
use Rattle.loading.specs.Loading.{node_stock, its_arcs}
use Rattle.loading.proofs.Series.{Onward}
use Rattle.loading.proofs.loading.load_arcs.Given as goal

abbrev pub invariant-loop-left : goal.invariant-loop-left
invariant-loop-left l =
    (length l.t ≡ length l.initial.t) × Onward l.ws l.shift l.p (node_stock l.number) (its_arcs l.count) (its_arcs l.left) l.initial.t l.t l.at (node_stock l.number)

abbrev pub decreases-loop-left : goal.decreases-loop-left
decreases-loop-left l = l.left
