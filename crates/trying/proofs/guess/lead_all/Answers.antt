-- `trying::guess::lead_all` meets its contract. The loop's invariant: the first i arcs lead to leaves that say nothing new. Assumes
-- nothing.
use mathlib.Core.Path.{◌≡◌, subst}
use native.Mathlib.Omega.{arith}
use Rattle.trying.specs.Leaf.{LeafTold, FirstLeaves}
use Rattle.trying.proofs.Leading.{leaves_none, leaves_more, all_agree, all_stop}
use Rattle.trying.proofs.guess.lead_all.Goals as goal

pub loop-i-init : goal.loop-i-init
loop-i-init c = leaves_none _ _ _ _ _

pub returns-in_default : goal.returns-in_default
returns-in_default c =
    all_stop c.args.n.count c.args.w.now c.args.g c.args.base c.args.d c.loop-i.i c.lead-one.result (omega arith) c.loop-i.invariant
    c.lead-one.ensures c.in_default.not-Agrees

pub loop-i-preserved : goal.loop-i-preserved
loop-i-preserved c =
    leaves_more c.args.n.count c.args.w.now c.args.g c.args.base c.args.d c.loop-i.i c.loop-i.invariant
    (subst (LeafTold c.args.n.count c.args.w.now c.args.g c.args.base c.args.d c.loop-i.i) c.in-Agrees.is c.lead-one.ensures)

pub returns : goal.returns
returns c =
    let e : c.loop-i.i ≡ c.args.d = omega arith in
    all_agree c.args.n.count c.args.w.now c.args.g c.args.base c.args.d (subst (FirstLeaves c.args.n.count c.args.w.now c.args.g c.args.base c.args.d) e c.loop-i.invariant)
