-- The proof of the cycle of calls {is_listable}. The measure is the number of words.
-- Assumes nothing.
use native.Mathlib.Omega.{arith}
use mathlib.Core.Path.{◌∙◌}
use Rattle.library_writing.proofs.Asked.{listable_none, listable_odd, listable_full, listable_low, listable_high, listable_long, listable_step}
use Rattle.library_writing.proofs.entries.+is_listable.Goals as goal

pub returns-then-entries-eq0 : goal.returns-then-entries-eq0
returns-then-entries-eq0 t c = listable_none c.args.left c.args.low c.args.entries.now c.if-entries-eq0.true

pub returns-then-entries-eq1 : goal.returns-then-entries-eq1
returns-then-entries-eq1 t c = listable_odd c.args.left c.args.low c.args.entries.now c.if-entries-eq1.true

pub returns-then-left-eq0 : goal.returns-then-left-eq0
returns-then-left-eq0 t c =
    listable_full c.args.left c.args.low c.args.entries.now (omega arith) c.if-left-eq0.true

pub returns-then-identifier-low : goal.returns-then-identifier-low
returns-then-identifier-low t c =
    listable_low c.args.left c.args.low c.args.entries.now (omega arith) (omega arith) (omega arith)

pub returns-then-identifier-ge-IDENTIFIERS : goal.returns-then-identifier-ge-IDENTIFIERS
returns-then-identifier-ge-IDENTIFIERS t c =
    listable_high c.args.left c.args.low c.args.entries.now (omega arith) (omega arith) (omega arith) (omega arith)

pub returns-then-wide-gt-INPUT_LIMIT : goal.returns-then-wide-gt-INPUT_LIMIT
returns-then-wide-gt-INPUT_LIMIT t c =
    listable_long c.args.left c.args.low c.args.entries.now (omega arith) (omega arith) (omega arith) (omega arith) (omega arith)

pub returns : goal.returns
returns t c =
    c.is_listable.ensures ∙ rw c.wide-identifier.ensures
    (listable_step c.args.left c.args.low c.args.entries.now (omega arith) (omega arith) (omega arith) (omega arith) (omega arith))
