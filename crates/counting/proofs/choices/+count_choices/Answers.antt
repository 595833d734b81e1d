-- `counting::choices::count_choices`, which calls itself, meets its contract: what is left of the product of sums goes on to the
-- whole, and the depth falls.
-- Assumes nothing.
use native.Mathlib.Omega.{arith}
use mathlib.Core.Path.{◌∙◌}
use Rattle.counting.proofs.Products.{cap_fits}
use Rattle.counting.proofs.Descent.{one, none, starts, multiply_none, multiply_all, multiply_here, sum_none}
use Rattle.counting.proofs.Descent.{sum_here, sum_asks, sum_on, sum_all}
use Rattle.counting.proofs.choices.+count_choices.Goals as goal
use Rattle.counting.proofs.choices.+count_choices.Goals.{then-kept, else-kept}

pub tail_at-e-requires : goal.tail_at-e-requires
tail_at-e-requires t c = (starts _ _ _ c.requires).0

pub overflow_add-at : goal.overflow_add-at
overflow_add-at t c = let h = (starts _ _ _ c.requires).1 in omega arith

pub disjunctions_at-disjunction-end-requires : goal.disjunctions_at-disjunction-end-requires
disjunctions_at-disjunction-end-requires t c =
    let h = (starts _ _ _ c.requires).1 in omega arith

pub loop-disjunction-init : goal.loop-disjunction-init
loop-disjunction-init t c = (λ k. multiply_none _ _ _ k _ _ c.tail_at-e.ensures (omega (arith, c.disjunctions_at-disjunction-end.ensures)), omega arith)

pub alternatives_at-count-requires : goal.alternatives_at-count-requires
alternatives_at-count-requires t c = multiply_here _ _ _ c.requires _ _ _
    (c.loop-disjunction.invariant.0 c.requires) (omega arith)

pub overflow_add-at-in-loop-disjunction : goal.overflow_add-at-in-loop-disjunction
overflow_add-at-in-loop-disjunction t c = let h = multiply_here _ _ _ c.requires _ _ _
    (c.loop-disjunction.invariant.0 c.requires) (omega arith) in omega arith

pub loop-alternative-init : goal.loop-alternative-init
loop-alternative-init t c = (
  λ k. sum_none _ _ _ k _ _ _ _ (c.loop-disjunction.invariant.0 k) (omega arith) (omega (arith, c.alternatives_at-count.ensures)),
  omega arith,
)

pub mark_at-requires : goal.mark_at-requires
mark_at-requires t c = let h = sum_here _ _ _ c.requires _ _ _ _ _ (c.loop-alternative.invariant.0 c.requires) (omega arith) in record {
  p_bound = h.0;
  p_bound_2 = h.1;
}

pub overflow_sub-left : goal.overflow_sub-left
overflow_sub-left t c = let h =
    (c.loop-alternative.invariant.0
    c.requires).deep in omega arith

pub count_choices-one-requires : goal.count_choices-one-requires
count_choices-one-requires t c = (
  let h = (c.loop-alternative.invariant.0
      c.requires).deep in
      omega arith,
  sum_asks _ _ _ c.requires _ _ _ _
      _ (c.loop-alternative.invariant.0
      c.requires) (omega arith),
)

pub overflow_add-sum : goal.overflow_add-sum
overflow_add-sum t c = omega arith

pub after_at-at-requires : goal.after_at-at-requires
after_at-at-requires t c = let h =
    sum_here _ _ _ c.requires _ _ _ _ _
    (c.loop-alternative.invariant.0
    c.requires) (omega arith) in
    record {
      p_bound = h.0;
      p_bound_2 = h.1;
    }

pub loop-alternative-preserved : goal.loop-alternative-preserved
loop-alternative-preserved t c = (
  λ k. sum_on _ _ _ k _ _ _ _ _ (c.loop-alternative.invariant.0 k) _ _ _ (omega arith) c.after_at-at.ensures
      (elim c.if-kept.branch [
        | then-kept w ↦ one _ (cc) w.count_choices-one.ensures (w.sum-is ∙ w.capped-sum.ensures)
        | else-kept w ↦ none (cc) w.sum-is
      ]),
  elim c.if-kept.branch [
    | then-kept w ↦ let e = w.capped-sum.ensures in let f = w.sum-is in omega arith
    | else-kept w ↦ let f = w.sum-is in omega arith
  ],
)

pub overflow_mul-product : goal.overflow_mul-product
overflow_mul-product t c = cap_fits c.loop-disjunction.invariant.1 c.loop-alternative.invariant.1

pub loop-disjunction-preserved : goal.loop-disjunction-preserved
loop-disjunction-preserved t c = (
  λ k. sum_all _ _ _ k _ _ _ _ _ (c.loop-alternative.invariant.0 k) _ _ (omega arith) (omega arith) c.capped-product.ensures,
  omega arith,
)

pub returns : goal.returns
returns t c = record {
  small = c.loop-disjunction.invariant.1;
  is =
      λ k. multiply_all _ _ _ k _ _ _ (c.loop-disjunction.invariant.0 k) (omega arith) c.loop-disjunction.invariant.1;
}
