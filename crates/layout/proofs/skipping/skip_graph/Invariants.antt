use mathlib.Core.Path.{◌≡◌}
use Prim.Native.Nat.{◌-◌}
use Rattle.layout.specs.Skipping.{ends, nodeEnd, graphEnd}
use Rattle.layout.proofs.skipping.skip_graph.Given as goal

abbrev pub invariant-loop : goal.invariant-loop
invariant-loop l = graphEnd l.ws l.p ≡ ends l.ws (nodeEnd l.ws) (l.end - l.counter) l.at
