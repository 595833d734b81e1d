-- `finding_clash::heads::bare` meets its contract: what is left of the nodes goes on to bare them all. Assumes nothing.
use Prim.Native.Nat.{◌+◌, ◌-◌}
use mathlib.Core.Path.{◌≡◌, refl}
use native.Mathlib.Omega.{arith}
use Rattle.finding_clash.proofs.Baring.{bare_begin, bare_asks, bare_go_on}
use Rattle.finding_clash.proofs.heads.bare.Goals as goal

pub loop-node-init : goal.loop-node-init
loop-node-init c =
    let all : c.args.i + c.args.count - c.args.i ≡ c.args.count = omega arith in
    (omega arith, rw all (bare_begin _ _ _ c.args.i _ refl))

pub bare_node-at-requires : goal.bare_node-at-requires
bare_node-at-requires c =
    bare_asks _ _ _ _ _ _ _ _ c.loop-node.invariant.1 (omega arith) c.requires (omega arith) (omega arith)

pub loop-node-preserved : goal.loop-node-preserved
loop-node-preserved c =
    (omega arith, bare_go_on _ _ _ _ _ _ _ _ c.loop-node.invariant.1 (omega arith) _ _ c.bare_node-at.ensures _ _ (omega arith) (omega arith))
