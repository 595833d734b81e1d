use Prim.Native.Nat.{◌-◌}
use Rattle.loading.specs.Loading.{node_stock, its_nodes}
use Rattle.loading.proofs.Series.{Onward}
use Rattle.loading.proofs.loading.load_nodes.Given as goal

abbrev pub invariant-loop : goal.invariant-loop
invariant-loop l = Onward l.ws l.shift l.p (node_stock l.number) (its_nodes l.count) (its_nodes (l.count - l.counter)) l.initial.t l.t l.at (node_stock l.number)
