-- `forest::forest::yields` meets its contract. Assumes nothing.
use mathlib.Core.Logic.{inl, inr}
use native.Mathlib.Omega.{arith}
use borrow.Author.Tests.{ltb-true, ltb-false}
use Rattle.forest.proofs.forest.yields.Goals as goal

pub returns-then-m-k : goal.returns-then-m-k
returns-then-m-k c =
    record {
      under = λ z. inr (omega arith, omega (arith, ltb-true));
      over = λ z. inr (omega arith, omega (arith, ltb-false));
    }

pub returns : goal.returns
returns c =
    record {
      under = λ z. inl (omega (arith, ltb-true));
      over = λ z. inl (omega (arith, ltb-false));
    }
