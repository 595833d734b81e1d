-- `library_writing::write::put_entry` meets its contract.
-- Assumes nothing.
use native.Mathlib.Omega.{arith}
use Rattle.library_writing.proofs.Poured.{four_pairs}
use Rattle.library_writing.proofs.write.put_entry.Goals as goal

pub returns : goal.returns
returns c =
    four_pairs c.args.start.now _ _ _ _ c.args.at _ _ _ 0 (omega arith) c.put_pair.ensures c.put_pair-2.ensures
    c.put_pair-3.ensures c.put_pair-4.ensures
