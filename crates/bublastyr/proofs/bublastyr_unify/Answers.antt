-- `bublastyr::bublastyr_unify` meets its contract. Assumes nothing.
use native.Mathlib.Omega.{arith}
use Rattle.unify.proofs.Sizes.{outcome_small, outcome_told}
use Rattle.unify.proofs.NodeSizes.{outcome_low}
use Rattle.bublastyr.proofs.bublastyr_unify.Goals as goal

pub overflow_cast-told : goal.overflow_cast-told
overflow_cast-told c =
    let h = outcome_small _ _ _ _ (outcome_told _ _ _ c.unify-answer.result _ _ _ _ c.unify-answer.ensures.outcome c.told-row.ensures) in
    omega arith

pub overflow_cast-told-2 : goal.overflow_cast-told-2
overflow_cast-told-2 c =
    let o = outcome_told _ _ _ c.unify-answer.result _ _ _ _ c.unify-answer.ensures.outcome c.told-row.ensures in
    let h = outcome_low _ _ _ _ o in
    omega arith

pub returns : goal.returns
returns c =
    outcome_told _ _ _ c.unify-answer.result _ _ _ _ c.unify-answer.ensures.outcome c.told-row.ensures
