-- The proof of the cycle of calls {write_index}. The measure is the number of words that the entries have.
-- Assumes nothing.
use native.Mathlib.Omega.{arith}
use Rattle.library_writing.proofs.Asked.{tail_length, reach_first}
use Rattle.library_writing.proofs.Poured.{one_entry, no_entry}
use Rattle.library_writing.proofs.write.+write_index.Goals as goal

pub write_index-requires : goal.write_index-requires
write_index-requires t c =
    let n = tail_length 2 c.args.entries.now in
    let next = reach_first c.args.next c.args.entries.now c.if-entries-ge2.true c.requires.0 in
    (omega arith, (rw c.blocks_for.ensures.0 (rw c.wide-words.ensures next), omega arith))

pub returns-then-entries-ge2 : goal.returns-then-entries-ge2
returns-then-entries-ge2 t c =
    one_entry c.args.start.now c.put_entry.new.start c.write_index.new.start c.args.entries.now c.args.at c.args.next c.if-entries-ge2.true (rw c.wide-words.ensures at (rw c.wide.ensures at c.put_entry.ensures))
    (rw c.wide-words.ensures at (rw c.blocks_for.ensures.0 at c.write_index.ensures))

pub returns-else-entries-ge2 : goal.returns-else-entries-ge2
returns-else-entries-ge2 t c =
    no_entry c.args.start.now c.args.entries.now c.args.at c.args.next c.if-entries-ge2.false c.requires.0.pairs
