-- What the loaded words of the area w hold at a position, where a graph, its end, or a disjunction stands.
-- Assumes nothing: these are definitions.
use Rattle.std.specs.Prelude.{ℕ, ◌+◌, List, get_or}
use Rattle.area.specs.Region.{loaded_words}
use Rattle.packing.specs.Packed.{word_number, word_extent, word_disjunctions, word_mark, word_end}

-- the number of node 0 of the graph at p
unfoldable pub number_at : List ℕ → ℕ → ℕ
number_at w p = word_number (get_or (loaded_words w) p 0)

-- where it ends: the position of its closing word
unfoldable pub tail_at : List ℕ → ℕ → ℕ
tail_at w p = p + word_extent (get_or (loaded_words w) p 0)

-- the mark of the description at p
unfoldable pub mark_at : List ℕ → ℕ → ℕ
mark_at w p = word_mark (get_or (loaded_words w) (tail_at w p) 0)

-- "the number of disjunctions" after the graph that ends at e
unfoldable pub disjunctions_at : List ℕ → ℕ → ℕ
disjunctions_at w e = word_disjunctions (get_or (loaded_words w) e 0)

-- where the description ends whose graph ends at e
unfoldable pub end_at : List ℕ → ℕ → ℕ
end_at w e = word_end (get_or (loaded_words w) e 0)

-- "number of alternatives" of the disjunction at p
unfoldable pub alternatives_at : List ℕ → ℕ → ℕ
alternatives_at w p = get_or (loaded_words w) p 0

-- where the description at p ends
unfoldable pub after_at : List ℕ → ℕ → ℕ
after_at w p = end_at w (tail_at w p)
