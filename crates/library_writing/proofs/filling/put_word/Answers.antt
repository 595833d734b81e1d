-- `library_writing::filling::put_word` meets its contract.
-- Assumes nothing.
use Prim.Native.Nat.{◌+◌, ◌-◌}
use native.Mathlib.Omega.{arith}
use mathlib.Core.Path.{◌≡◌}
use Rattle.library_writing.proofs.Poured.{stored}
use Rattle.library_writing.proofs.filling.put_word.Goals as goal

pub returns : goal.returns
returns c =
    let four : (c.args.at + 4) - c.args.at ≡ 4 = omega arith in
    rw c.copy_from_slice.ensures.after (rw c.to_le_bytes.ensures (rw four (stored c.args.bytes.now c.args.at c.args.value (omega arith))))
