-- `sieving::through::look_through` meets its contract. Assumes nothing.
use mathlib.Core.Path.{◌∙◌}
use mathlib.Core.Logic.{inl, inr, ⊎_elim}
use Rattle.sieving.proofs.Keeping.{through_runs, through_same}
use Rattle.sieving.proofs.through.look_through.Goals as goal
use Rattle.sieving.proofs.through.look_through.Goals.{then-i-t, else-i-t}

pub look-requires : goal.look-requires
look-requires c =
    record {
      runs = through_runs _ _ _ c.requires.sieves _ _ c.wide-i.ensures _
          (elim c.if-i-t.branch [ then-i-t u ↦ inl (u.if-i-t.true, u.y-is ∙ u.wide-y.ensures) | else-i-t u ↦ inr u.y-is ]) c.requires.runs;
    }

pub returns : goal.returns
returns c =
    through_same _ _ _ c.requires.sieves _ _ c.wide-i.ensures _
    (elim c.if-i-t.branch [ then-i-t u ↦ inl (u.if-i-t.true, u.y-is ∙ u.wide-y.ensures) | else-i-t u ↦ inr u.y-is ]) _ c.look.ensures
