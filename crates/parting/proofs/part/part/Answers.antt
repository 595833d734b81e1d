-- `parting::part::part` meets its contract. Assumes nothing.
use native.Mathlib.Omega.{arith}
use Rattle.closing.specs.Rows.{spot_limit}
use Rattle.parting.proofs.Parted.{part_marks, part_asks, part_drawn}
use Rattle.parting.proofs.part.part.Goals as goal

pub mark_trail-requires : goal.mark_trail-requires
mark_trail-requires c =
    part_marks c.args.tables.now.arcs.now c.args.tables.now.atoms.now c.args.tables.now.ties.now c.args.tables.now.alts.now c.args.homes.now _ c.requires.parting _
    c.wide.ensures spot_limit (omega arith)

pub draw_part-requires : goal.draw_part-requires
draw_part-requires c =
    part_asks c.args.tables.now.arcs.now c.args.tables.now.atoms.now c.args.tables.now.ties.now c.args.tables.now.alts.now c.args.homes.now _ c.requires.parting _ c.wide.ensures
    _ _ _ _ _ _ _ c.mark_trail.ensures c.gather_arcs-n.ensures (omega arith) (omega arith)

pub returns : goal.returns
returns c =
    part_drawn c.args.tables.now.arcs.now c.args.tables.now.atoms.now c.args.tables.now.ties.now c.args.tables.now.alts.now c.args.homes.now _ c.requires.parting _ c.wide.ensures
    _ _ _ _ _ _ _ c.mark_trail.ensures c.gather_arcs-n.ensures _ _ _ c.draw_part.ensures
