-- `laying::laying::sign` meets its contract.
-- Assumes nothing.
use native.Mathlib.Omega.{arith}
use Rattle.laying.proofs.Passing.{arc_passed, atom_passed, top_passed, share_passed, open_passed, beside_passed}
use Rattle.laying.proofs.Passing.{moved_passed}
use Rattle.laying.proofs.laying.sign.Goals as goal

pub returns-in-102 : goal.returns-in-102
returns-in-102 c = arc_passed _ _ _ _ _ c.arc.result c.in-102.is c.arc.ensures.0 c.arc.ensures.1

pub returns-in-97 : goal.returns-in-97
returns-in-97 c = atom_passed _ _ _ _ _ c.bear.result c.in-97.is c.bear.ensures.0 c.bear.ensures.1

pub returns-in-80 : goal.returns-in-80
returns-in-80 c =
    top_passed _ _ _ _ c.bear-one.result c.bear-in-80.result _ _ c.in-80.is c.bear-one.ensures.0 c.bear-in-80.ensures.0
    c.bear-one.ensures.1 c.bear-in-80.ensures.1

pub returns-in-62 : goal.returns-in-62
returns-in-62 c = share_passed _ _ _ _ c.share.result _ c.in-62.is c.share.ensures

pub returns-in-40 : goal.returns-in-40
returns-in-40 c = open_passed _ _ _ _ c.open_group.result _ _ c.in-40.is c.open_group.ensures

pub returns-in-124 : goal.returns-in-124
returns-in-124 c =
    beside_passed _ _ _ _ c.owner-of.result c.beside.result _ c.in-124.is c.owner-of.ensures c.beside.ensures.0 c.beside.ensures.1

pub returns-in_default : goal.returns-in_default
returns-in_default c =
    moved_passed _ _ _ _ c.move_on.result (λ e. omega arith) (λ e. omega arith) (λ e. omega arith) (λ e. omega arith) (λ e. omega arith)
    (λ e. omega arith) (λ e. omega arith) c.move_on.ensures
