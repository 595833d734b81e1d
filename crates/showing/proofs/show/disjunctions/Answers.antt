-- `showing::show::disjunctions` meets its contract.
-- Assumes nothing.
use Prim.Native.Nat.{◌+◌}
use native.Mathlib.Omega.{arith}
use mathlib.Core.Path.{ap, ap₂, ◌∙◌}
use Rattle.marks.specs.Positions.{disjunctions_at}
use Rattle.showing.proofs.show.disjunctions.Goals as goal

pub overflow_add-result : goal.overflow_add-result
unfolding disjunctions_at
overflow_add-result c = omega arith

pub returns : goal.returns
returns c =
    ap₂ ◌+◌ (c.disjunctions_at-first.ensures ∙ ap (disjunctions_at c.args.w.now) c.tail_at.ensures)
    (c.disjunctions_at-second.ensures ∙ ap (disjunctions_at c.args.w.now) c.tail_at-2.ensures)
