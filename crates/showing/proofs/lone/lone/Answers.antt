-- `showing::lone::lone` meets its contract: what is left to look at goes on to the whole.
-- Assumes nothing.
use native.Mathlib.Omega.{arith}
use native.Mathlib.Nat.{sub-zero, sub-add-eq}
use mathlib.Core.Path.{◌≡◌}
use Prim.Native.Nat.{ℕ}
use Rattle.showing.proofs.Looking.{look_reads, look_start, look_done, look_here, look_counts, look_on}
use Rattle.showing.proofs.lone.lone.Goals as goal

pub tail_at-e-requires : goal.tail_at-e-requires
tail_at-e-requires c = (look_reads _ _ _ c.requires.1).0

pub disjunctions_at-more-requires : goal.disjunctions_at-more-requires
disjunctions_at-more-requires c =
    let h = (look_reads _ _ _ c.requires.1).1 in omega arith

pub overflow_add-at : goal.overflow_add-at
overflow_add-at c = let h = (look_reads _ _ _ c.requires.1).1 in omega arith

pub loop-init : goal.loop-init
loop-init c = λ left d. rw sub-zero (look_start _ _ _ d _ _ c.tail_at-e.ensures c.disjunctions_at-more.ensures)

pub alternatives_at-of-requires : goal.alternatives_at-of-requires
alternatives_at-of-requires c = look_here _ _ _ c.requires.1 _ _ (c.loop.invariant _ c.requires.1) (omega arith)

pub overflow_add-at-in-loop : goal.overflow_add-at-in-loop
overflow_add-at-in-loop c = let h = look_here _ _ _ c.requires.1 _ _ (c.loop.invariant _ c.requires.1) (omega arith) in omega arith

pub count_kept-tally-requires : goal.count_kept-tally-requires
count_kept-tally-requires c = look_counts _ _ _ c.requires.1 _ _ (c.loop.invariant _ c.requires.1) (omega arith) _ c.alternatives_at-of.ensures

pub returns-in-One : goal.returns-in-One
returns-in-One c = λ left d e. let z : ◌≡◌ {A = ℕ} 0 1 = cc in absurd (omega arith)

pub loop-preserved : goal.loop-preserved
loop-preserved c = λ left d. rw sub-add-eq (look_on _ _ _ d _ _ (c.loop.invariant left d) (omega arith) _
    c.alternatives_at-of.ensures _ _ c.count_kept-tally.ensures c.in_default.not-One)

pub returns : goal.returns
returns c = λ left d e. look_done _ _ _ d _ _ (c.loop.invariant left d) (omega arith)
