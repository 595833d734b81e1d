-- `marks::positions::mark_at` meets its contract. Assumes nothing.
use native.Mathlib.Omega.{arith}
use mathlib.Core.Path.{ap, ◌∙◌}
use Prim.Native.Nat.{ℕ}
use lib.ListN.{get_or}
use Rattle.area.specs.Region.{loaded_words}
use Rattle.packing.specs.Packed.{word_mark}
use Rattle.packing.proofs.Packed.{mark_low}
use Rattle.marks.specs.Positions.{mark_at}
use Rattle.marks.proofs.positions.mark_at.Goals as goal

pub returns : goal.returns
unfolding mark_at
returns c = (
  c.mark_of.ensures ∙ ap word_mark (c.word_at.ensures
      ∙ ap (λ (k : ℕ). get_or (loaded_words c.args.w.now) k 0)
      c.tail_at.ensures),
  omega (arith, mark_low c.word_at.result),
)
