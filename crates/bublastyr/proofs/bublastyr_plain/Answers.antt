-- `bublastyr::bublastyr_plain` meets its contract. Assumes nothing.
use native.Mathlib.Omega.{arith}
use Rattle.unify.proofs.Sizes.{outcome_small, outcome_told}
use Rattle.unify.proofs.NodeSizes.{outcome_low}
use Rattle.bublastyr.proofs.bublastyr_plain.Goals as goal

pub overflow_cast-told : goal.overflow_cast-told
overflow_cast-told c =
    let h = outcome_small _ _ _ _ (outcome_told _ _ _ c.plain-answer.result _ _ _ _ c.plain-answer.ensures.outcome c.told-plain.ensures) in
    omega arith

pub overflow_cast-told-2 : goal.overflow_cast-told-2
overflow_cast-told-2 c =
    let o = outcome_told _ _ _ c.plain-answer.result _ _ _ _ c.plain-answer.ensures.outcome c.told-plain.ensures in
    let h = outcome_low _ _ _ _ o in
    omega arith

pub returns : goal.returns
returns c =
    outcome_told _ _ _ c.plain-answer.result _ _ _ _ c.plain-answer.ensures.outcome c.told-plain.ensures
