-- `packing::graph_word` meets its contract: what it packs fits a word. Assumes nothing.
use native.Mathlib.Omega.{arith}
use Rattle.packing.specs.Packed.{graph_word}
use Rattle.packing.proofs.graph_word.Goals as goal

pub returns : goal.returns
unfolding graph_word
returns c = omega arith
