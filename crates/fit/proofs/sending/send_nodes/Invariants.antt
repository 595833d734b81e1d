use Rattle.fit.proofs.Nodewise.{Nodewise}
use Rattle.fit.proofs.sending.send_nodes.Given as goal

abbrev pub invariant-loop-i : goal.invariant-loop-i
invariant-loop-i l = Nodewise l.structure.words.now l.ws l.p l.nodes l.initial.map l.i l.walk.next l.map l.walk.met
