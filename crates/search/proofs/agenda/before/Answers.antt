-- `search::agenda::before` meets its contract. Assumes nothing.
use Rattle.search.proofs.Slots.{lists_before, lists_same}
use mathlib.Core.Logic.{⊎_elim}
use mathlib.Core.Path.{refl}
use native.Mathlib.Omega.{arith}
use Rattle.search.proofs.agenda.before.Goals as goal

pub returns-then-more-eq0 : goal.returns-then-more-eq0
returns-then-more-eq0 c = lists_same _ _ c.args.more (omega arith)

pub returns : goal.returns
returns c = lists_before _ _ _ _ (λ e. omega arith) (⊎_elim (λ z. absurd (omega arith)) (λ h. h) c.requires) refl refl
