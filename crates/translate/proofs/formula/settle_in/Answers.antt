-- `translate::formula::settle_in` meets its contract.
-- Assumes nothing.
use mathlib.Core.Path.{◌∙◌}
use native.Mathlib.Omega.{arith}
use Rattle.std.proofs.lemmas.Result.{err_from_is_err_and}
use Rattle.signs.proofs.Going.{ok_or_err}
use Rattle.translate.proofs.Settling.{settling, settled_clash, fine_few, settled_fine}
use Rattle.translate.proofs.formula.settle_in.Goals as goal

pub settle-settled-requires-clause-settling : goal.settle-settled-requires-clause-settling
settle-settled-requires-clause-settling c = settling _ _ _ _ _ _ _ c.requires.0.1 c.own_homes.ensures

pub returns-in_err-whole : goal.returns-in_err-whole
returns-in_err-whole c =
    let p = err_from_is_err_and c.from_residual.result c.from_residual.ensures.1 in
    let none = c.in_err-whole.ensures.ok_part in
    λ φ tabled. rw (p.1, p.2, ok_or_err c.settle-settled.result _ _ none c.in_err-whole.ensures.value)
    (settled_clash φ _ _ _ _ _ _ tabled c.own_homes.ensures _ c.settle-settled.result _ _ c.settle-settled.ensures none _)

pub hand_over-requires : goal.hand_over-requires
hand_over-requires c =
    let few = fine_few _ _ _ _ _ _ _ c.requires.0.1 c.own_homes.ensures _ c.settle-settled.result _ _ c.settle-settled.ensures _
    c.in_ok-whole.ensures.ok_part in
    (c.settle-settled.ensures.kept.same ∙ c.requires.1, omega (arith, few, c.requires.1))

pub returns : goal.returns
returns c =
    λ φ tabled. settled_fine φ _ _ _ _ _ _ tabled c.own_homes.ensures _ c.settle-settled.result _ _ c.settle-settled.ensures _
    c.in_ok-whole.ensures.ok_part _ c.hand_over.result _ c.hand_over.ensures
