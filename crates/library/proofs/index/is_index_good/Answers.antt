-- `library::index::is_index_good` meets its contract: the entries left are judged as the whole index is.
-- Assumes nothing.
use native.Mathlib.Omega.{arith}
use Prim.Native.Nat.{ℕ, ◌+◌, ◌*◌, ◌-◌}
use mathlib.Core.Path.{sym, ◌∙◌}
use Rattle.library.specs.Index.{room_of, index_good}
use Rattle.blocks.specs.Block.{pair_at}
use Rattle.library.proofs.Indices.{next_entry, index_stop, index_step, index_done}
use Rattle.library.proofs.index.is_index_good.Goals as goal

pub returns-then-not-is_entry_good : goal.returns-then-not-is_entry_good
returns-then-not-is_entry_good c = sym (c.loop-i.invariant.1.1 ∙ index_stop (c.args.count - c.loop-i.i) c.loop-i.low c.loop-i.next (2 + 8 * c.loop-i.i) c.args.start.now c.args.total (omega arith) (rw c.entry_at-at.ensures at (sym c.is_entry_good.ensures ∙ c.if-not-is_entry_good.true)))

pub loop-i-preserved : goal.loop-i-preserved
loop-i-preserved c =
    let p = 2 + 8 * c.loop-i.i in
    let low = pair_at c.args.start.now p + 1 in
    let next = c.loop-i.next + room_of (pair_at c.args.start.now (p + 4)) in
    let step = c.loop-i.invariant.1.1 ∙ index_step (c.args.count - c.loop-i.i) c.loop-i.low c.loop-i.next (2 + 8 * c.loop-i.i) c.args.start.now c.args.total (omega arith) (rw c.entry_at-at.ensures at (sym c.is_entry_good.ensures ∙ c.if-not-is_entry_good.false)) in (
      omega arith,
      (
        omega arith,
        step ∙ rw (c.blocks_for-next.ensures.0) (rw (c.read_pair-low.ensures.0) (rw (c.read_pair.ensures.0) (rw c.entry_at-at.ensures
            (next_entry (λ (n p : ℕ). index_good n low next p c.args.start.now c.args.total) c.args.count c.loop-i.i)))),
      ),
    )

pub returns : goal.returns
returns c = sym (c.loop-i.invariant.1.1 ∙ index_done (c.args.count - c.loop-i.i) c.loop-i.low c.loop-i.next (2 + 8 * c.loop-i.i) c.args.start.now c.args.total (omega arith))
