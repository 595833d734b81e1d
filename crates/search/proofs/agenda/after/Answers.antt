-- `search::agenda::after` meets its contract. Assumes nothing.
use Rattle.search.proofs.Slots.{lists_after}
use mathlib.Core.Path.{refl}
use Rattle.search.proofs.agenda.after.Goals as goal

pub returns : goal.returns
returns c = lists_after _ _ refl refl
