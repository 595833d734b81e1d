-- `translate::hand::hand_over` meets its contract.
-- Assumes nothing.
use mathlib.Core.Path.{ap}
use mathlib.Core.List.{List, ◌++◌}
use Prim.Native.Nat.{ℕ}
use native.Mathlib.Omega.{arith}
use lib.ListN.{drop}
use Rattle.translate.proofs.Handing.{hand_done}
use Rattle.translate.proofs.hand.hand_over.Goals as goal

pub returns : goal.returns
returns c =
    hand_done _ _ _ c.requires.0 _ (omega arith) (omega arith)
    (ap (λ (xs : List ℕ). xs ++ drop c.args.len c.args.res.now) c.copy_from_slice.ensures.after)
