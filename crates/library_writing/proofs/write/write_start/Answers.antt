-- `library_writing::write::write_start` meets its contract.
-- Assumes nothing.
use native.Mathlib.Omega.{arith}
use mathlib.Core.Path.{ap, ◌∙◌}
use Prim.Native.Nat.{ℕ, ◌/◌}
use mathlib.Core.List.{List, ◌++◌}
use lib.ListN.{length}
use Rattle.blocks.specs.Block.{block, filled}
use Rattle.library_writing.specs.Write.{index_asked}
use Rattle.library_writing.proofs.Poured.{count_put}
use Rattle.library_writing.proofs.write.write_start.Goals as goal

pub returns : goal.returns
returns c =
    let count = count_put c.args.start.now c.put_pair.new.bytes (length c.args.entries.now / 2) (omega arith) c.put_pair.ensures in
    c.finish.ensures
    ∙ ap (λ (l : List ℕ). block (filled l) 0) (c.write_index.ensures ∙ ap (λ (l : List ℕ). l ++ index_asked 1 c.args.entries.now) count)
