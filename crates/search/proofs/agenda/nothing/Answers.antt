-- `search::agenda::nothing` meets its contract. Assumes nothing.
use Rattle.search.proofs.Slots.{lists_none}
use mathlib.Core.Path.{refl}
use Rattle.search.proofs.agenda.nothing.Goals as goal

pub returns : goal.returns
returns c = lists_none _ refl refl
