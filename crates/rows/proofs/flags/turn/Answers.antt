-- `rows::flags::turn` meets its contract.
-- Assumes nothing.
use mathlib.Core.Path.{ap, ◌∙◌}
use Prim.Native.Nat.{ℕ, ◌+◌}
use Rattle.rows.proofs.Turns.{turned_close, turned_or, turned_open, byte_bit}
use Rattle.rows.proofs.flags.turn.Goals as goal

pub returns-in-41 : goal.returns-in-41
returns-in-41 c = turned_close _ _ _ _ c.requires.i_in_bounds.0 c.requires.i_in_bounds.1 c.in-41.is

pub returns-in-124 : goal.returns-in-124
returns-in-124 c = turned_or _ _ _ _ c.requires.i_in_bounds.0 c.requires.i_in_bounds.1 _ c.in-124.is c.saturating_sub-at.ensures

pub returns-in-40 : goal.returns-in-40
returns-in-40 c =
    turned_open _ _ _ _ c.requires.i_in_bounds.0 c.requires.i_in_bounds.1 c.last.result _ _ c.in-40.is c.last.ensures
    c.saturating_sub.ensures
    (ap (λ (n : ℕ). 2621440 + n) (c.from.ensures ∙ byte_bit c.last.result))
