-- `translate::formula::mark_tree` meets its contract.
-- Assumes nothing.
use mathlib.Core.Path.{refl}
use Rattle.translate.proofs.Trees.{flagging_of, marked_of}
use Rattle.translate.proofs.formula.mark_tree.Goals as goal

pub mark_groups-flagged-requires : goal.mark_groups-flagged-requires
mark_groups-flagged-requires c = flagging_of _ _ _ _ refl c.requires.1

pub lay_tree-requires : goal.lay_tree-requires
lay_tree-requires c =
    (c.requires.0, marked_of _ _ _ _ _ refl c.mark_groups-flagged.auto.signs c.mark_groups-flagged.ensures c.requires.1)

pub returns : goal.returns
returns c =
    λ φ read. c.lay_tree.ensures φ (marked_of φ _ _ _ _ refl c.mark_groups-flagged.auto.signs c.mark_groups-flagged.ensures read)
