-- `folding::buffer::put` meets its contract. Assumes nothing.
use native.Mathlib.Omega.{arith}
use Rattle.theory.specs.Limits.{input_limit}
use Rattle.folding.proofs.Ending.{put_in, put_out}
use Rattle.folding.proofs.buffer.put.Goals as goal

pub returns-then-len-lt-INPUT_LIMIT : goal.returns-then-len-lt-INPUT_LIMIT
returns-then-len-lt-INPUT_LIMIT c = put_in _ input_limit _ _ (omega arith) (omega arith)

pub returns : goal.returns
returns c = put_out _ input_limit _ _ (omega arith) (omega arith) (omega arith)
