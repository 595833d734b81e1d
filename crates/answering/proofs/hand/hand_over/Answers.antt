-- `answering::hand::hand_over` meets its contract: the words that are copied are those of the result.
-- Assumes nothing.
use Rattle.std.proofs.Common.{◌≡◌, ◌+◌, ◌-◌, arith, refl}
use mathlib.Core.Logic.{inr}
use Rattle.area.specs.Map.{RESULT}
use Rattle.area.specs.Region.{region}
use Rattle.area.proofs.Region.{length_region}
use Rattle.answering.proofs.hand.hand_over.Goals as goal

pub returns : goal.returns
unfolding region
returns c =
    let n = c.in_ok-unified.unified.length in
    let inside = rw c.in_ok-unified.was at c.requires in
    let same : RESULT + n - RESULT ≡ n = omega arith in
    let long = length_region RESULT n c.args.working.now inside in
    rw c.in_ok-unified.was (inr (omega arith, refl, rw (c.copy_out.ensures, same, long)))
