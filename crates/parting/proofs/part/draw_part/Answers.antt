-- `parting::part::draw_part` meets its contract. Assumes nothing.
use Rattle.parting.proofs.Parted.{half_drawn}
use Rattle.parting.proofs.part.draw_part.Goals as goal

pub returns : goal.returns
returns c =
    half_drawn _ _ _ _ _ _ _ _ _ _ _ _ c.gather_rows-n.ensures c.gather_rows-m.ensures _ _ _ c.draw.ensures
