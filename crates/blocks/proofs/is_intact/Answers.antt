-- `blocks::is_intact` meets its contract.
-- Assumes nothing.
use Prim.Native.Nat.{◌-◌}
use native.Mathlib.Omega.{arith}
use mathlib.Core.Path.{◌≡◌, sym, ◌∙◌}
use lib.Seq.{length-take-le}
use borrow.Author.Tests.{eqb-true, ne_eqb, le-leb}
use Rattle.blocks.specs.Block.{content_size}
use Rattle.blocks.proofs.Laws.{not_both, zeros_none, intact_rest}
use Rattle.blocks.proofs.is_intact.Goals as goal
use Rattle.blocks.proofs.is_intact.Goals.{then-read_pair-sums, else-read_pair-sums, then-read_pair-sums-2, else-read_pair-sums-2}

pub slice_bounds-sums_over-end : goal.slice_bounds-sums_over-end
slice_bounds-sums_over-end c = sym (length-take-le 508 c.args.block.now (omega arith))

-- both sums and the number are right, and no byte is unused
pub returns-then-used-ge-CONTENT : goal.returns-then-used-ge-CONTENT
returns-then-used-ge-CONTENT c = elim c.if-read_pair-sums-2.branch [
  | then-read_pair-sums-2 w ↦ elim c.if-read_pair-sums.branch [
    | then-read_pair-sums v ↦
        let none : content_size - c.args.used ≡ 0 = omega arith in
        le-leb _ _ c.if-used-ge-CONTENT.true ∙ zeros_none _ _ none
        ∙ sym (intact_rest _ _ c.args.block.now _ _ c.if-block-ne-BLOCK.false c.sums_over-sums.ensures (sym c.read_pair.ensures.0 ∙ v.if-read_pair-sums.true)
        (sym v.read_pair-then-read_pair-sums.ensures.0 ∙ eqb-true _ _ (sym v.value-is ∙ w.if-read_pair-sums-2.true))
        (sym w.read_pair-then-read_pair-sums-2.ensures.0 ∙ eqb-true _ _ (sym w.value-is ∙ c.if-read_pair-number.true)))
    | else-read_pair-sums v ↦ absurd (not_both _ (v.value-is ∙ ne_eqb _ _ v.if-read_pair-sums.false) w.if-read_pair-sums-2.true)
  ]
  | else-read_pair-sums-2 w ↦ absurd (not_both _ (w.value-is ∙ w.if-read_pair-sums-2.false) c.if-read_pair-number.true)
]
