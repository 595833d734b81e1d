-- `blocks::is_damaged` meets its contract.
-- Assumes nothing.
use Prim.Native.Nat.{◌+◌, ◌-◌, ◌*◌}
use native.Mathlib.Omega.{arith}
use mathlib.Core.Path.{◌≡◌}
use Rattle.blocks.proofs.Laws.{intact_short}
use Rattle.blocks.proofs.is_damaged.Goals as goal

pub returns-then-file-k : goal.returns-then-file-k
returns-then-file-k c = let e = intact_short c.args.used c.args.k c.args.file.now c.if-file-k.true in
    rw e

pub returns : goal.returns
returns c = let e : (512 * c.args.k + 512) - 512 * c.args.k ≡ 512 = omega arith in
    rw c.is_intact.ensures (rw e)
