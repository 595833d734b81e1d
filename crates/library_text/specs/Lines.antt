-- The lines that are printed for a library, as bytes.
-- Assumes nothing: these are definitions.
use Rattle.std.specs.Prelude.{ℕ, List, [], ◌∷◌, ◌++◌}
use Rattle.answer_text.specs.Answer.{newline, answer_label, words_label, labelled, second_line}

-- ` bytes `
abbrev pub bytes_label : List ℕ
bytes_label = 32 ∷ 98 ∷ 121 ∷ 116 ∷ 101 ∷ 115 ∷ 32 ∷ []

-- `block `, ` costs `
abbrev pub block_label : List ℕ
block_label = 98 ∷ 108 ∷ 111 ∷ 99 ∷ 107 ∷ 32 ∷ []

abbrev pub costs_label : List ℕ
costs_label = 32 ∷ 99 ∷ 111 ∷ 115 ∷ 116 ∷ 115 ∷ 32 ∷ []

-- `answer 42`
unfoldable pub number_line : ℕ → List ℕ
number_line number = labelled answer_label number ++ newline

-- `answer 0 words 6`, `answer 0 bytes 1024`
unfoldable pub extent_line : ℕ → List ℕ → ℕ → List ℕ
extent_line number label extent = labelled answer_label number ++ (labelled label extent ++ newline)

-- the first line, and after 0 a line with the words
unfoldable pub words_text : ℕ → ℕ → List ℕ → List ℕ
words_text number extent words = extent_line number words_label extent ++ second_line number words

-- `block 3 costs 17`: the block, and the description that its damage costs
unfoldable pub cost_line : ℕ → ℕ → List ℕ
cost_line k id = labelled block_label k ++ (labelled costs_label id ++ newline)
