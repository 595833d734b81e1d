use Prim.Native.Nat.{◌-◌}
use Rattle.showing.specs.Copying.{nodes_piece, Copying}
use Rattle.showing.proofs.Copying.{Nodes}
use Rattle.showing.proofs.copy.copy_nodes.Given as goal

abbrev pub invariant-loop : goal.invariant-loop
invariant-loop l = (d : Copying (nodes_piece l.count) l.initial.w l.number l.p l.o) →
    Nodes l.initial.w l.number l.p l.count l.o d (l.count - l.counter) l.at l.out l.w
