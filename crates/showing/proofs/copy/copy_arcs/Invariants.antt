use Prim.Native.Nat.{◌-◌}
use Rattle.showing.specs.Copying.{arcs_piece, Copying}
use Rattle.showing.proofs.Nodes.{Arcs}
use Rattle.showing.proofs.copy.copy_arcs.Given as goal

abbrev pub invariant-loop : goal.invariant-loop
invariant-loop l = (d : Copying (arcs_piece l.count) l.initial.w l.number l.p l.o) →
    Arcs l.initial.w l.number l.p l.count l.o d (l.count - l.counter) l.at l.out l.w
