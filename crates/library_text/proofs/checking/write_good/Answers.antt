-- `library_text::checking::write_good` meets its contract: a line with 0, then the damaged blocks.
-- Assumes nothing.
use Prim.Native.Nat.{ℕ, ◌/◌}
use mathlib.Core.Path.{refl}
use mathlib.Core.List.{List, ◌++◌}
use lib.ListN.{length}
use Rattle.std.specs.Prelude.{Some, None}
use Rattle.blocks.specs.Block.{block_size}
use Rattle.answer_text.proofs.Goings.{both, first_stops, wrote}
use Rattle.library_text.specs.Lines.{number_line}
use Rattle.library_text.specs.Serves.{block_lines, good_text}
use Rattle.library_text.proofs.checking.write_good.Goals as goal

pub returns-in_err-at : goal.returns-in_err-at
unfolding good_text
returns-in_err-at c =
    let two : List ℕ = block_lines (length c.args.file.now / block_size) 0 c.args.file.now in
    rw c.from_residual.ensures
    (wrote (number_line 0 ++ two) c.args.out.now c.put_number_line.new.dst None
    (first_stops (number_line 0) two c.args.out.now c.put_number_line.new.dst 0 None c.in_err-at.ensures refl))

pub returns : goal.returns
unfolding good_text
returns c =
    let two : List ℕ = block_lines (length c.args.file.now / block_size) 0 c.args.file.now in
    wrote (number_line 0 ++ two) c.args.out.now c.put_blocks.new.dst c.put_blocks.result
    (both (number_line 0) two c.args.out.now c.put_number_line.new.dst 0 (Some c.in_ok-at.at) c.in_ok-at.ensures c.in_ok-at.at refl c.put_blocks.new.dst
    c.put_blocks.result c.put_blocks.ensures)
