-- `library::survey::find_holder` meets its contract: the entries left are searched as all are.
-- Assumes nothing.
use native.Mathlib.Omega.{arith}
use Prim.Native.Nat.{ℕ, ◌+◌, ◌*◌, ◌-◌}
use mathlib.Core.Path.{sym, ◌∙◌}
use Rattle.library.specs.Check.{holder_of}
use Rattle.library.proofs.Indices.{next_entry}
use Rattle.library.proofs.Checking.{among_means, holder_here, holder_step, holder_none}
use Rattle.library.proofs.survey.find_holder.Goals as goal

pub overflow_sub-k : goal.overflow_sub-k
overflow_sub-k c =
    let m = (among_means c.read_pair-first.result c.read_pair-words.result c.args.k (sym c.has_block.ensures ∙ c.if-has_block.true)).0 in
    omega arith

pub overflow_mul-k : goal.overflow_mul-k
overflow_mul-k c =
    let m = (among_means c.read_pair-first.result c.read_pair-words.result c.args.k (sym c.has_block.ensures ∙ c.if-has_block.true)).1 in
    record { fits = omega arith }

pub overflow_sub-words : goal.overflow_sub-words
overflow_sub-words c =
    let m = (among_means c.read_pair-first.result c.read_pair-words.result c.args.k (sym c.has_block.ensures ∙ c.if-has_block.true)).1 in
    omega arith

pub returns-then-has_block : goal.returns-then-has_block
returns-then-has_block c =
    let here = sym c.has_block.ensures ∙ c.if-has_block.true in
    rw c.read_pair-identifier.ensures.0 (rw c.first_part-used.ensures (rw c.read_pair-words.ensures.0 (rw c.read_pair-first.ensures.0 (rw c.entry_at-at.ensures
    (holder_here c.args.k (c.args.count - c.loop-i.i) (2 + 8 * c.loop-i.i) c.args.start.now (omega arith) (rw c.entry_at-at.ensures at (rw c.read_pair-words.ensures.0 at (rw c.read_pair-first.ensures.0 at here))))))))
    ∙ sym c.loop-i.invariant

pub loop-i-preserved : goal.loop-i-preserved
loop-i-preserved c =
    let other = sym c.has_block.ensures ∙ c.if-has_block.false in
    c.loop-i.invariant ∙ holder_step c.args.k (c.args.count - c.loop-i.i) (2 + 8 * c.loop-i.i) c.args.start.now (omega arith) (rw c.entry_at-at.ensures at (rw c.read_pair-words.ensures.0 at (rw c.read_pair-first.ensures.0 at other)))
    ∙ next_entry (λ (n p : ℕ). holder_of c.args.k n p c.args.start.now) c.args.count c.loop-i.i

pub returns : goal.returns
returns c =
    holder_none c.args.k (c.args.count - c.loop-i.i) (2 + 8 * c.loop-i.i) c.args.start.now (omega arith) ∙ sym c.loop-i.invariant
