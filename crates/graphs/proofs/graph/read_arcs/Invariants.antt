use mathlib.Core.Path.{◌≡◌}
use Prim.Native.Nat.{◌+◌, ◌-◌, ◌≤◌}
use lib.ListN.{length}
use Rattle.graphs.specs.Graph.{arcsFrom, readArcs}
use Rattle.graphs.proofs.graph.read_arcs.Given as goal

abbrev pub invariant-loop : goal.invariant-loop
invariant-loop l =
    (l.at + ((l.count - l.counter) + (l.count - l.counter)) ≤ length l.ws)
    × (readArcs l.ws l.nodes l.count l.first l.p ≡ arcsFrom l.ws l.nodes (l.count - l.counter) l.low l.met l.at)
