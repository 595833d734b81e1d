-- `library::index::find` meets its contract: the entries left are searched as all are.
-- Assumes nothing.
use native.Mathlib.Omega.{arith}
use Prim.Native.Nat.{ℕ, ◌+◌, ◌*◌, ◌-◌}
use mathlib.Core.Path.{sym, ◌∙◌}
use Rattle.library.specs.Index.{found}
use Rattle.library.proofs.Indices.{next_entry, found_here, found_step, found_none}
use Rattle.library.proofs.index.find.Goals as goal

pub returns-then-read_pair-identifier : goal.returns-then-read_pair-identifier
returns-then-read_pair-identifier c = rw c.read_pair-first.ensures.0 (rw c.read_pair-words.ensures.0 (rw c.entry_at-at.ensures (found_here c.args.identifier (c.args.count - c.loop-i.i) (2 + 8 * c.loop-i.i) c.args.start.now (omega arith) (rw c.entry_at-at.ensures at (sym c.read_pair.ensures.0 ∙ c.if-read_pair-identifier.true))))) ∙ sym c.loop-i.invariant

pub loop-i-preserved : goal.loop-i-preserved
loop-i-preserved c =
    c.loop-i.invariant ∙ found_step c.args.identifier (c.args.count - c.loop-i.i) (2 + 8 * c.loop-i.i) c.args.start.now (omega arith) (λ e. c.if-read_pair-identifier.false (rw c.entry_at-at.ensures at c.read_pair.ensures.0 ∙ e))
    ∙ next_entry (λ (n p : ℕ). found c.args.identifier n p c.args.start.now) c.args.count c.loop-i.i

pub returns : goal.returns
returns c = found_none c.args.identifier (c.args.count - c.loop-i.i) (2 + 8 * c.loop-i.i) c.args.start.now (omega arith) ∙ sym c.loop-i.invariant
