-- `loading::loading::load` meets its contract: an input is the description that stands at its first word, and its numbers fit.
-- Assumes nothing.
use Rattle.loading.proofs.Parts.{load_room, load_asks, load_loads}
use Rattle.loading.proofs.loading.load.Goals as goal

pub load_description-reach-requires : goal.load_description-reach-requires
load_description-reach-requires c = record {
  room = load_room _ _ _ _ c.requires;
  asked = load_asks _ _ _ _ c.requires;
}

pub returns : goal.returns
returns c = rw c.wide.ensures (load_loads _ _ _ _ _ _ _ _ _ c.load_description-reach.ensures)
