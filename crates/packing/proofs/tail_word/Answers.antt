-- `packing::tail_word` meets its contract: what it packs fits a word. Assumes nothing.
use native.Mathlib.Omega.{arith}
use Rattle.packing.specs.Packed.{tail_word}
use Rattle.packing.proofs.tail_word.Goals as goal

pub returns : goal.returns
unfolding tail_word
returns c = omega arith
