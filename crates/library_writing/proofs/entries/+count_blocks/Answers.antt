-- The proof of the cycle of calls {count_blocks}. The measure is the number of words.
-- Assumes nothing.
use native.Mathlib.Omega.{arith}
use Rattle.library_writing.proofs.Asked.{tail_length, none_blocks, blocks_first, pairs_first}
use Rattle.library_writing.proofs.entries.+count_blocks.Goals as goal

pub returns-then-entries-lt2 : goal.returns-then-entries-lt2
returns-then-entries-lt2 t c = (none_blocks c.args.entries.now c.if-entries-lt2.true, omega arith)

pub returns : goal.returns
returns t c =
    let few = (pairs_first c.args.entries.now c.if-entries-lt2.false c.requires.0).0 in
    let n = tail_length 2 c.args.entries.now in
    let first = blocks_first c.args.entries.now c.if-entries-lt2.false in
    (omega arith, omega arith)
