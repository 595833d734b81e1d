-- `finding_clash::finding::strip` meets its contract. Assumes nothing.
use Rattle.finding_clash.proofs.Stripping.{asks_one, asks_two, strips}
use Rattle.finding_clash.proofs.finding.strip.Goals as goal

pub bare-requires : goal.bare-requires
bare-requires c = asks_one _ c.requires.long c.requires.g c.requires.h c.requires.b c.requires.lie _ c.requires.first_many

pub bare-requires-2 : goal.bare-requires-2
bare-requires-2 c =
    asks_two _ c.requires.long c.requires.g c.requires.h c.requires.b c.requires.lie _ c.requires.first_many _ c.bare.ensures _ c.requires.second_many

pub returns : goal.returns
returns c =
    strips _ _ _ c.requires _ _ c.bare.ensures c.bare-2.ensures
