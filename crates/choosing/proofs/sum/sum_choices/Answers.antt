-- `choosing::sum::sum_choices` meets its contract: the sum so far and what is still to come are the whole.
-- Assumes nothing.
use native.Mathlib.Omega.{arith}
use native.Mathlib.Nat.{sub-zero, sub-add-eq}
use mathlib.Core.Path.{◌∙◌}
use mathlib.Core.Logic.{⊎_elim}
use Rattle.choosing.proofs.Sums.{one, none, sum_none, sum_all, sum_here, sum_asks, sum_on}
use Rattle.choosing.proofs.sum.sum_choices.Goals as goal
use Rattle.choosing.proofs.sum.sum_choices.Goals.{then-kept, else-kept}

pub loop-init : goal.loop-init
loop-init c = (λ k. rw sub-zero (sum_none k), omega arith)

pub mark_at-requires : goal.mark_at-requires
mark_at-requires c = let old : _ × _ = sum_here c.requires _ (c.loop.invariant.0 c.requires) (omega arith) in record { p_bound = old.0.0; p_bound_2 = old.1 }

pub kept-requires : goal.kept-requires
kept-requires c = c.mark_at.ensures.1

pub count_choices-one-requires : goal.count_choices-one-requires
count_choices-one-requires c =
    sum_asks c.requires _ (c.loop.invariant.0 c.requires) (omega arith)

pub overflow_add-sum : goal.overflow_add-sum
overflow_add-sum c = omega arith

pub after_at-at-requires : goal.after_at-at-requires
after_at-at-requires c =
    let old : _ × _ = sum_here c.requires _ (c.loop.invariant.0 c.requires) (omega arith) in record { p_bound = old.0.0; p_bound_2 = old.1 }

pub loop-preserved : goal.loop-preserved
loop-preserved c = (
  λ k. rw sub-add-eq (sum_on k _ (c.loop.invariant.0 k) (omega arith) _
      c.mark_at.ensures _
      (elim c.if-kept.branch [
        | then-kept u ↦ one _ (cc) u.count_choices-one.ensures (u.sum-is ∙ u.capped-sum.ensures)
        | else-kept u ↦ none (cc) u.sum-is
      ]) _
      c.after_at-at.ensures),
  elim c.if-kept.branch [
    | then-kept u ↦ let e = u.capped-sum.ensures in let f = u.sum-is in omega arith
    | else-kept u ↦ let f = u.sum-is in omega arith
  ],
)

pub returns : goal.returns
returns c = record {
  small = c.loop.invariant.1;
  is = λ k. sum_all k _ (c.loop.invariant.0 k) (omega arith) c.loop.invariant.1;
}
