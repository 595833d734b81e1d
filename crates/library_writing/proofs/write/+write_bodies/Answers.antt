-- The proof of the cycle of calls {write_bodies}. The measure is the number of words that the entries have.
-- Assumes nothing.
use native.Mathlib.Omega.{arith}
use mathlib.Core.Path.{sym, ◌∙◌}
use Prim.Native.Nat.{◌*◌}
use mathlib.Core.List.{◌++◌}
use lib.ListN.{drop, length-append, length-drop}
use lib.Seq.{length-take-le}
use Rattle.library_writing.proofs.Asked.{tail_length, blocks_first, reach_first, sound_first}
use Rattle.library_writing.proofs.Poured.{one_body, no_body}
use Rattle.library_writing.proofs.write.+write_bodies.Goals as goal

pub slice_bounds-write_description-end : goal.slice_bounds-write_description-end
slice_bounds-write_description-end t c =
    let first = blocks_first c.args.entries.now c.if-entries-ge2.true in
    omega arith

pub slice_bounds-write_description-end-then-entries-ge2 : goal.slice_bounds-write_description-end-then-entries-ge2
slice_bounds-write_description-end-then-entries-ge2 t c =
    let first = blocks_first c.args.entries.now c.if-entries-ge2.true in
    sym (length-take-le (512 * c.blocks_for-here.result) c.args.out.now (omega arith))

pub slice_bounds-write_description-end-then-entries-ge2-2 : goal.slice_bounds-write_description-end-then-entries-ge2-2
slice_bounds-write_description-end-then-entries-ge2-2 t c =
    let first = blocks_first c.args.entries.now c.if-entries-ge2.true in
    let there = (sound_first c.args.entries.now c.args.words.now c.if-entries-ge2.true c.requires.1).0 in
    sym (length-take-le c.wide-count.result c.args.words.now (omega arith))

pub write_description-requires : goal.write_description-requires
write_description-requires t c =
    let first = blocks_first c.args.entries.now c.if-entries-ge2.true in
    let there = (sound_first c.args.entries.now c.args.words.now c.if-entries-ge2.true c.requires.1).0 in
    let front = length-take-le (512 * c.blocks_for-here.result) c.args.out.now (omega arith) in
    let words = length-take-le c.wide-count.result c.args.words.now (omega arith) in
    (omega arith, omega arith)

pub slice_bounds-write_bodies-count : goal.slice_bounds-write_bodies-count
slice_bounds-write_bodies-count t c =
    let first = blocks_first c.args.entries.now c.if-entries-ge2.true in
    let size = 512 * c.blocks_for-here.result in
    let n = length-append c.write_description.new.out (drop size c.args.out.now) in
    let d = length-drop size c.args.out.now in
    let front = length-take-le size c.args.out.now (omega arith) in
    omega arith

pub slice_bounds-write_bodies-start : goal.slice_bounds-write_bodies-start
slice_bounds-write_bodies-start t c =
    let first = blocks_first c.args.entries.now c.if-entries-ge2.true in
    let size = 512 * c.blocks_for-here.result in
    let n = length-append c.write_description.new.out (drop size c.args.out.now) in
    let d = length-drop size c.args.out.now in
    let front = length-take-le size c.args.out.now (omega arith) in
    omega arith

pub slice_bounds-write_bodies-count-then-entries-ge2-2 : goal.slice_bounds-write_bodies-count-then-entries-ge2-2
slice_bounds-write_bodies-count-then-entries-ge2-2 t c =
    let first = blocks_first c.args.entries.now c.if-entries-ge2.true in
    let there = (sound_first c.args.entries.now c.args.words.now c.if-entries-ge2.true c.requires.1).0 in
    omega arith

pub slice_bounds-write_bodies-start-then-entries-ge2-2 : goal.slice_bounds-write_bodies-start-then-entries-ge2-2
slice_bounds-write_bodies-start-then-entries-ge2-2 t c =
    let first = blocks_first c.args.entries.now c.if-entries-ge2.true in
    let there = (sound_first c.args.entries.now c.args.words.now c.if-entries-ge2.true c.requires.1).0 in
    omega arith

pub write_bodies-requires : goal.write_bodies-requires
write_bodies-requires t c =
    let first = blocks_first c.args.entries.now c.if-entries-ge2.true in
    let there = (sound_first c.args.entries.now c.args.words.now c.if-entries-ge2.true c.requires.1).0 in
    let size = 512 * c.blocks_for-here.result in
    let n = length-append c.write_description.new.out (drop size c.args.out.now) in
    let d = length-drop size c.args.out.now in
    let front = length-take-le size c.args.out.now (omega arith) in
    let left = tail_length 2 c.args.entries.now in
    let room = tail_length size (c.write_description.new.out ++ drop size c.args.out.now) in
    let next = reach_first c.args.next c.args.entries.now c.if-entries-ge2.true c.requires.0 in
    let more = (sound_first c.args.entries.now c.args.words.now c.if-entries-ge2.true c.requires.1).1 in
    (omega arith, (rw c.blocks_for-here.ensures.0 (rw c.wide-count.ensures next), rw c.wide-count.ensures more, omega arith))

pub returns-then-entries-ge2 : goal.returns-then-entries-ge2
returns-then-entries-ge2 t c =
    let first = blocks_first c.args.entries.now c.if-entries-ge2.true in
    let there = (sound_first c.args.entries.now c.args.words.now c.if-entries-ge2.true c.requires.1).0 in
    let front = length-take-le (512 * c.blocks_for-here.result) c.args.out.now (omega arith) in
    one_body c.args.out.now c.write_description.new.out c.write_bodies.new.out c.args.entries.now c.args.words.now c.args.next c.blocks_for-here.result c.wide-count.result
    (512 * c.blocks_for-here.result) c.if-entries-ge2.true c.wide-count.ensures c.blocks_for-here.ensures.0 (omega arith) (c.write_description.auto.out ∙ front) c.write_description.ensures c.write_bodies.ensures

pub returns-else-entries-ge2 : goal.returns-else-entries-ge2
returns-else-entries-ge2 t c =
    no_body c.args.out.now c.args.entries.now c.args.words.now c.args.next c.if-entries-ge2.false c.requires.2
