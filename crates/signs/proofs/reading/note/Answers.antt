-- `signs::reading::note` meets its contract.
-- Assumes nothing.
use mathlib.Core.Path.{ap}
use Prim.Native.Nat.{ℕ, ◌*◌}
use Rattle.signs.specs.Limits.{kind_unit}
use Rattle.signs.proofs.Notes.{clean_notes}
use Rattle.signs.proofs.reading.note.Goals as goal

pub returns-in-Clean : goal.returns-in-Clean
returns-in-Clean c = clean_notes _ _ _ _ _ _ _ c.in-Clean.is c.requires.0
    (ap (λ (k : ℕ). k * kind_unit) c.from.ensures)
