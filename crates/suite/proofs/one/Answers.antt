-- `suite::one` meets its contract: the two parts of the word area are those that the record names. Assumes nothing.
use Prim.Native.Nat.{◌+◌, ◌-◌}
use native.Mathlib.Omega.{arith}
use Rattle.suite.proofs.Laws.{call_is, answered}
use Rattle.suite.proofs.one.Goals as goal

pub returns : goal.returns
returns c =
    answered _ _ _ _ _ _ _ _ c.unify-answer.ensures.outcome c.told.ensures.0 c.told.ensures.1.1.0
    (call_is c.args.words.now c.args.test c.wide-a.result (c.wide-a.result + c.wide.result - c.wide-a.result) c.wide-c.result (c.wide-c.result + c.wide-2.result - c.wide-c.result) (omega arith) (omega arith) (omega arith) (omega arith))
