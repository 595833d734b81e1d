-- Where the definite graphs are pushed, their joined graph may be written.
use Rattle.replay.proofs.Ready.{ready}
use Rattle.replay.proofs.joining.opened.Goals as goal

pub write_graph-r-requires : goal.write_graph-r-requires
write_graph-r-requires c =
    ready c.args.w.now c.args.a.now c.args.b.now c.open.new.w c.in-Some.came.nodes c.in-Some.came.log c.requires.inputs c.in-Some.ensures
