-- `blocks::seal` meets its contract.
-- Assumes nothing.
use native.Mathlib.Omega.{arith}
use mathlib.Core.Path.{sym}
use lib.Seq.{length-take-le}
use Rattle.blocks.proofs.Laws.{sealed_not, sealed_is}
use Rattle.blocks.proofs.seal.Goals as goal

pub returns-then-block-ne-BLOCK : goal.returns-then-block-ne-BLOCK
returns-then-block-ne-BLOCK c = sealed_not _ _ c.if-block-ne-BLOCK.true

pub slice_bounds-sums_over-end-2 : goal.slice_bounds-sums_over-end-2
slice_bounds-sums_over-end-2 c =
    sym (length-take-le 508 c.put_pair.new.bytes (omega arith))

pub returns : goal.returns
returns c = sealed_is _ _ c.if-block-ne-BLOCK.false _ _ _ _ _ c.put_pair.ensures c.sums_over-sums.ensures c.put_pair-2.ensures c.put_pair-3.ensures
