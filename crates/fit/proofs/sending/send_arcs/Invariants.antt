use Prim.Native.Nat.{◌-◌}
use Rattle.fit.specs.Parts.{arcsOfWords, lastArcs}
use Rattle.fit.proofs.Arcwise.{Arcwise}
use Rattle.fit.proofs.sending.send_arcs.Given as goal

abbrev pub invariant-loop : goal.invariant-loop
invariant-loop l =
    Arcwise l.structure l.end l.ws (lastArcs l.structure l.end l.ahead) (arcsOfWords l.ws l.p l.count) l.initial.map l.first l.more l.at
    (l.count - l.counter) l.map l.met
