-- `blocks::sums_over` meets its contract: what is left adds up as the whole does.
-- Assumes nothing.
use native.Mathlib.Omega.{arith}
use native.Mathlib.Nat.{mod-lt}
use mathlib.Core.Path.{◌∙◌}
use Rattle.blocks.proofs.Laws.{sums_step, sums_done}
use Rattle.blocks.proofs.sums_over.Goals as goal

pub loop-byte-preserved : goal.loop-byte-preserved
loop-byte-preserved c = (
  mod-lt _ (omega arith),
  (mod-lt _ (omega arith), c.loop-byte.invariant.1.1 ∙ sums_step c.args.bytes.now c.loop-byte.first c.loop-byte.second c.loop-byte.byte-index (omega arith) ∙ rw c.from.ensures),
)

pub returns : goal.returns
returns c = c.loop-byte.invariant.1.1 ∙ sums_done c.args.bytes.now c.loop-byte.first c.loop-byte.second c.loop-byte.byte-index (omega arith)
