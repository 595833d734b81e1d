-- `forest::held::held_by` meets its contract. Assumes nothing.
use mathlib.Core.Path.{◌∙◌, ap}
use Rattle.forest.specs.Held.{held_by}
use Rattle.forest.specs.declared.held.Held.TheVariants.{Arcs}
use Rattle.forest.proofs.Walks.{some}
use Rattle.forest.proofs.Contents.{held_nothing, held_arcs, held_atom}
use Rattle.forest.proofs.held.held_by.Goals as goal

pub returns-then-h-gt-LAST_ARC : goal.returns-then-h-gt-LAST_ARC
unfolding held_by
returns-then-h-gt-LAST_ARC c = held_atom _ c.if-h-gt-LAST_ARC.true

pub returns-then-h-eq0 : goal.returns-then-h-eq0
unfolding held_by
returns-then-h-eq0 c = held_nothing _ c.if-h-eq0.true

pub returns : goal.returns
unfolding held_by
returns c = ap Arcs c.wide.ensures ∙ held_arcs _ (some _ c.if-h-eq0.false) c.if-h-gt-LAST_ARC.false
