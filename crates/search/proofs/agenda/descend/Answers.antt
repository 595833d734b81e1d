-- `search::agenda::descend` meets its contract. Assumes nothing.
use Rattle.marks.specs.Positions.{disjunctions_at}
use mathlib.Core.Logic.{inl, inr, ⊎_elim}
use mathlib.Core.Path.{◌∙◌, ap}
use Rattle.search.proofs.Slots.{opens}
use Rattle.search.proofs.agenda.descend.Goals as goal

pub before-requires : goal.before-requires
before-requires c = ⊎_elim (λ z. inl (c.disjunctions_at-more.ensures ∙ ap (disjunctions_at _) c.tail_at-e.ensures ∙ z))
    (λ h. inr h) c.requires.fact

pub returns : goal.returns
returns c = λ l h. opens _ _ _ _ _ c.tail_at-e.ensures c.disjunctions_at-more.ensures l (c.before-2.ensures l h)
