-- `quick::pass::pass` meets its contract: the first input, then the second.
-- Assumes nothing.
use native.Mathlib.Omega.{arith}
use Rattle.quick.proofs.Sifting.{fewer_small}
use Rattle.quick.proofs.Passing.{first, pass_fails, second, asks_undo, pass_fails_2, pass_stands}
use Rattle.quick.proofs.pass.pass.Goals as goal

pub narrow-requires : goal.narrow-requires
narrow-requires c = first _ _ _ c.requires

pub returns-in_err-first : goal.returns-in_err-first
returns-in_err-first c = rw c.from_residual.ensures (pass_fails _ _ _ _ _ c.narrow.ensures c.in_err-first.was)

pub narrow-requires-2 : goal.narrow-requires-2
narrow-requires-2 c = second _ _ _ _ _ c.narrow.ensures _ _ c.in_ok-first.was c.requires

pub back-requires : goal.back-requires
back-requires c = asks_undo _ _ _ _ _ c.narrow.ensures _ _ c.in_ok-first.was _ _ c.narrow-2.ensures c.in_default.is

pub returns-in_default : goal.returns-in_default
returns-in_default c =
    pass_fails_2 _ _ _ _ _ c.narrow.ensures _ _ c.in_ok-first.was _ _ c.narrow-2.ensures c.in_default.is _ c.back.ensures

pub overflow_add-result : goal.overflow_add-result
overflow_add-result c = let a = fewer_small _ _ _ (c.narrow.ensures.standing _ _ c.in_ok-first.was).1 in
    let b = fewer_small _ _ _ (c.narrow-2.ensures.standing _ _ c.in-Some.is).1 in omega arith

pub returns : goal.returns
returns c = pass_stands _ _ _ _ _ c.narrow.ensures _ _ c.in_ok-first.was _ _ c.narrow-2.ensures _ _ c.in-Some.is
