-- `forest::merge::is_by_itself` meets its contract. Assumes nothing.
use Prim.Native.Nat.{◌+◌}
use mathlib.Core.Path.{◌≡◌}
use borrow.Author.Tests.{eqb-true}
use lib.ListN.{get_or}
use Rattle.area.specs.Map.{HELD}
use Rattle.forest.proofs.Itself.{held_none}
use Rattle.forest.proofs.merge.is_by_itself.Goals as goal

pub returns-then-w-y : goal.returns-then-w-y
returns-then-w-y c =
    λ e.
    let none : get_or c.args.w.now (HELD + c.args.y) 0 ≡ 0 = eqb-true _ _ e in
    record { own = c.if-w-y.true; empty = held_none c.args.w.now c.args.y none }
