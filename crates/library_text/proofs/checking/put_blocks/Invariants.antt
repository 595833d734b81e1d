use Prim.Native.Nat.{◌-◌}
use Rattle.answer_text.proofs.Goings.{Turned}
use Rattle.library_text.specs.Serves.{block_lines}
use Rattle.library_text.proofs.checking.put_blocks.Given as goal

abbrev pub invariant-loop-k : goal.invariant-loop-k
invariant-loop-k l = Turned l.initial.dst l.at (block_lines l.total 0 l.file) l.dst l.end (block_lines (l.total - l.k) l.k l.file)
