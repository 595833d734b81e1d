-- What is read of a packed word is what it was made of.
-- Assumes nothing.
use Prim.Native.Nat.{ℕ, ◌<◌}
use native.Mathlib.Omega.{arith}
use mathlib.Core.Path.{◌≡◌}
use Rattle.packing.specs.Packed.{number_step, mark_step, graph_word, word_nodes, word_number, word_extent}
use Rattle.packing.specs.Packed.{tail_word, word_disjunctions, word_mark, word_end}

module _ (nodes number extent : ℕ) (few : nodes < number_step) where
  pub nodes_back : word_nodes (graph_word nodes number extent) ≡ nodes
  unfolding graph_word
  nodes_back = omega arith

  pub number_back : number < number_step → word_number (graph_word nodes number extent) ≡ number
  unfolding graph_word
  number_back h = omega arith

  pub extent_back : number < number_step → word_extent (graph_word nodes number extent) ≡ extent
  unfolding graph_word
  extent_back h = omega arith

module _ (count mark end : ℕ) (few : count < mark_step) where
  pub count_back : word_disjunctions (tail_word count mark end) ≡ count
  unfolding tail_word
  count_back = omega arith

  pub mark_back : mark < mark_step → word_mark (tail_word count mark end) ≡ mark
  unfolding tail_word
  mark_back h = omega arith

  pub end_back : mark < mark_step → word_end (tail_word count mark end) ≡ end
  unfolding tail_word
  end_back h = omega arith

pub mark_low : (x : ℕ) → word_mark x < mark_step
mark_low x = omega arith
