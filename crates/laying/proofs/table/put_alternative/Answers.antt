-- `laying::table::put_alternative` meets its contract.
-- Assumes nothing.
use Prim.Native.Nat.{◌+◌, ◌*◌}
use mathlib.Core.Path.{refl, ◌∙◌}
use native.Mathlib.Omega.{arith}
use lib.ListN.{get_or, length-set}
use Rattle.laying.proofs.Columns.{alternative_put_at}
use Rattle.laying.proofs.table.put_alternative.Goals as goal

pub shape_of-alts : goal.shape_of-alts
shape_of-alts c =
    let at = 4 * c.wide-of.result + 2 in
    c.put_four.ensures.size ∙ length-set c.args.alts.now at c.args.k

pub returns : goal.returns
returns c =
    alternative_put_at c.args.alts.now c.args.k c.args.owner c.args.group c.args.spot c.put_four.new.rows c.wide-of.result
    (get_or c.args.alts.now (4 * c.wide-of.result + 2) 0) c.wide-of.ensures refl (omega arith) c.put_four.ensures
