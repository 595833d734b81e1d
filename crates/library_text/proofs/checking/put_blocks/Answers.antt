-- `library_text::checking::put_blocks` meets its contract: what is left of the blocks goes on as the whole does.
-- Assumes nothing.
use Prim.Native.Nat.{◌+◌, ◌-◌, ◌/◌}
use native.Mathlib.Omega.{arith}
use mathlib.Core.Path.{refl}
use lib.ListN.{length}
use Rattle.std.specs.Prelude.{Some, None}
use Rattle.answer_text.proofs.Goings.{turns_end, turns_go, turns_stop}
use Rattle.library_text.specs.Serves.{block_line, block_lines}
use Rattle.library_text.proofs.Tellings.{lines_next, lines_end}
use Rattle.library_text.proofs.checking.put_blocks.Goals as goal

pub returns-in_err-end : goal.returns-in_err-end
returns-in_err-end c =
    let total = length c.args.file.now / 512 in
    rw c.from_residual.ensures
    (turns_stop c.args.dst.now c.args.at (block_lines total 0 c.args.file.now) c.loop-k.dst c.loop-k.end (block_lines (total - c.loop-k.k) c.loop-k.k c.args.file.now) c.loop-k.invariant
    (block_line c.loop-k.k c.args.file.now) (block_lines (total - (c.loop-k.k + 1)) (c.loop-k.k + 1) c.args.file.now) c.put_block.new.dst None
    (lines_next c.args.file.now total c.loop-k.k c.loop-k-test.true) c.in_err-end.ensures refl)

pub loop-k-preserved : goal.loop-k-preserved
loop-k-preserved c =
    let total = length c.args.file.now / 512 in
    turns_go c.args.dst.now c.args.at (block_lines total 0 c.args.file.now) c.loop-k.dst c.loop-k.end (block_lines (total - c.loop-k.k) c.loop-k.k c.args.file.now) c.loop-k.invariant
    (block_line c.loop-k.k c.args.file.now) (block_lines (total - (c.loop-k.k + 1)) (c.loop-k.k + 1) c.args.file.now) c.put_block.new.dst (Some c.in_ok-end.end)
    (lines_next c.args.file.now total c.loop-k.k c.loop-k-test.true) c.in_ok-end.ensures c.in_ok-end.end refl

pub returns : goal.returns
returns c =
    let total = length c.args.file.now / 512 in
    turns_end c.args.dst.now c.args.at (block_lines total 0 c.args.file.now) c.loop-k.dst c.loop-k.end (block_lines (total - c.loop-k.k) c.loop-k.k c.args.file.now) c.loop-k.invariant
    (lines_end c.args.file.now total c.loop-k.k (omega arith))
