-- The packed words of a loaded description: what they are made of, and what is read of them.
-- Assumes nothing: these are definitions.
use Rattle.std.specs.Prelude.{ℕ, ◌+◌, ◌*◌, ◌/◌, ◌%◌}

-- the factors
abbrev pub number_step : ℕ
number_step = 1024

abbrev pub extent_step : ℕ
extent_step = 1048576

abbrev pub mark_step : ℕ
mark_step = 1024

abbrev pub end_step : ℕ
end_step = 1048576

-- positions are below this
abbrev pub end_limit : ℕ
end_limit = 4096

-- the first word of a loaded graph: its node count, the number of its node 0, and its extent
unfoldable pub graph_word : ℕ → ℕ → ℕ → ℕ
graph_word nodes number extent = nodes + number_step * number + extent_step * extent

abbrev pub word_nodes : ℕ → ℕ
word_nodes x = x % number_step

abbrev pub word_number : ℕ → ℕ
word_number x = x / number_step % number_step

abbrev pub word_extent : ℕ → ℕ
word_extent x = x / extent_step

-- the word after a loaded graph: "the number of disjunctions", the number of the description's mark, and the position where it ends
unfoldable pub tail_word : ℕ → ℕ → ℕ → ℕ
tail_word count mark end = count + mark_step * mark + end_step * end

abbrev pub word_disjunctions : ℕ → ℕ
word_disjunctions x = x % mark_step

abbrev pub word_mark : ℕ → ℕ
word_mark x = x / mark_step % mark_step

abbrev pub word_end : ℕ → ℕ
word_end x = x / end_step
