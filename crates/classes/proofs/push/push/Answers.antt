-- `classes::push::push` meets its contract. Assumes nothing.
use mathlib.Core.Path.{refl}
use Rattle.classes.proofs.Pushings.{push_adding, pushes_in, pushes_clashed}
use Rattle.classes.proofs.push.push.Goals as goal

pub add-requires : goal.add-requires
add-requires c =
    push_adding c.args.n.count c.args.k c.args.w.now c.args.g c.loaded-head.result c.number_of-base.result c.nodes_of-c.result c.loaded-head.ensures c.number_of-base.ensures
    c.nodes_of-c.ensures c.requires

pub returns-in-Err : goal.returns-in-Err
returns-in-Err c =
    pushes_clashed c.args.n.count c.args.k c.args.w.now c.args.g c.loaded-head.result c.number_of-base.result c.nodes_of-c.result c.loaded-head.ensures c.number_of-base.ensures
    c.nodes_of-c.ensures c.requires _ _ _ c.in-Err.ensures _ refl c.undo.ensures

pub returns-in-Ok : goal.returns-in-Ok
returns-in-Ok c =
    pushes_in c.args.n.count c.args.k c.args.w.now c.args.g c.loaded-head.result c.number_of-base.result c.nodes_of-c.result c.loaded-head.ensures c.number_of-base.ensures
    c.nodes_of-c.ensures c.requires _ _ _ c.in-Ok.ensures refl
