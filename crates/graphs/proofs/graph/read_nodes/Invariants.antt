use mathlib.Core.Path.{◌≡◌}
use Prim.Native.Nat.{◌-◌}
use Rattle.graphs.specs.Graph.{readNodes}
use Rattle.graphs.proofs.graph.read_nodes.Given as goal

abbrev pub invariant-loop-i : goal.invariant-loop-i
invariant-loop-i l = readNodes l.ws l.nodes l.nodes 0 1 l.p ≡ readNodes l.ws l.nodes (l.nodes - l.i) l.i l.walk.met l.walk.next
