-- What is printed for a text that asks something of a library. The text is two numbers, a command and an identifier; right after the
-- second a newline; and after that newline the rest, any bytes.
-- Assumes nothing: these are definitions.
use Rattle.std.specs.Prelude.{ℕ, zero, suc, ◌+◌, ◌/◌, true, false, List, [], ◌∷◌, ◌++◌, Some, None, Ok, Err, length, eqb, ltb}
use Rattle.std.proofs.Math.Option.{none, some}
use Rattle.blocks.specs.Block.{block_size}
use Rattle.library.specs.Index.{Index, index_of}
use Rattle.library.specs.Read.{Fetched, fetch_answer, words_asked}
use Rattle.library.specs.List.{Listed, list_answer, list_by}
use Rattle.library.specs.Told.{index_number, list_number, list_extent, fetch_number, fetch_extent}
use Rattle.library.specs.Check.{Checked, block_checked}
use Rattle.library.specs.File.{file}
use Rattle.library_writing.specs.Write.{Written, split, write_answer}
use Rattle.library_writing.specs.Told.{write_number}
use Rattle.call_text.specs.Token.{is, over, bad, token}
use Rattle.call_text.specs.Call.{words_in, done}
use Rattle.answer_text.specs.Answer.{bad_text}
use Rattle.library_text.specs.Lines.{bytes_label, number_line, extent_line, words_text, cost_line}

-- ---- the parts of a text
-- a number at the start of a text, and what is printed by it and the text after it; `bad input` where none stands
unfoldable pub past_number : List ℕ → (ℕ → List ℕ → List ℕ) → List ℕ
past_number cs go = elim (token cs) [ is v rest ↦ go v rest | over ↦ bad_text | bad ↦ bad_text ]

-- the same of so many words
unfoldable pub past_words : ℕ → List ℕ → (List ℕ → List ℕ → List ℕ) → List ℕ
past_words n cs go = elim (words_in n cs) [ none ↦ bad_text | some t ↦ go t.0 t.1 ]

-- the same of a newline
unfoldable pub past_newline : List ℕ → (List ℕ → List ℕ) → List ℕ
past_newline [] go = bad_text
past_newline (c ∷ cs) go = elim (eqb c 10) [ true ↦ go cs | false ↦ bad_text ]

-- ---- 1: the list of a library
-- 60 entries of two words
abbrev pub list_room : ℕ
list_room = 120

-- `answer N words K`, and after 0 the identifier and the number of words of each entry
unfoldable pub listed_text : Listed → List ℕ → List ℕ
listed_text r words = words_text (list_number r) (list_extent r) words

unfoldable pub list_text : List ℕ → List ℕ
list_text f = listed_text (list_answer f list_room) (list_by (index_of f) f)

-- ---- 2: a description of a library
abbrev pub description_room : ℕ
description_room = 1024

-- `answer N words K`, and after 0 the words of the description
unfoldable pub fetched_text : Fetched → List ℕ → List ℕ
fetched_text r words = words_text (fetch_number r) (fetch_extent r) words

unfoldable pub description_text : ℕ → List ℕ → List ℕ
description_text id f = fetched_text (fetch_answer f id description_room) (words_asked f id)

-- ---- 3: every block of a library is checked
-- a line for a damaged block, none for another
abbrev pub checked_line : ℕ → Checked → List ℕ
checked_line k (Ok (Some id)) = cost_line k id
checked_line k (Ok None) = []
checked_line k (Err e) = []

unfoldable pub block_line : ℕ → List ℕ → List ℕ
block_line k f = checked_line k (block_checked k f)

-- the lines of n blocks from block k on
unfoldable pub block_lines : ℕ → ℕ → List ℕ → List ℕ
block_lines zero k f = []
block_lines (suc n) k f = block_line k f ++ block_lines n (k + 1) f

-- `answer 0`, and a line for each damaged block, in order
unfoldable pub good_text : List ℕ → List ℕ
good_text f = number_line 0 ++ block_lines (length f / block_size) 0 f

-- "40 length no multiple of 512 or zero, 41 block 0 damaged, 42 index breaks a rule"
abbrev pub check_by : Index → List ℕ → List ℕ
check_by (Ok count) f = good_text f
check_by (Err e) f = number_line (index_number e)

unfoldable pub check_text : List ℕ → List ℕ
check_text f = check_by (index_of f) f

-- ---- 4: a library is written
-- the most words of entries, two an entry and one entry more than an index has, and the most words that are read; the bytes of the
-- longest library, of 541 blocks
abbrev pub entry_words_limit : ℕ
entry_words_limit = 122

abbrev pub words_limit : ℕ
words_limit = 65536

abbrev pub file_room : ℕ
file_room = 276992

-- `answer 0 bytes N` and the bytes of the file as they are, or a number alone
abbrev pub made_by : Written → List ℕ → List ℕ
made_by (Ok n) bytes = extent_line 0 bytes_label n ++ bytes
made_by (Err e) bytes = number_line (write_number (Err e))

unfoldable pub made_text : List ℕ → List ℕ → List ℕ
made_text entries words = made_by (write_answer entries words file_room) (file (split entries words))

-- so many words of entries, so many words, and then no number any more
unfoldable pub runs_text : ℕ → ℕ → List ℕ → List ℕ
runs_text n m cs =
    past_words n cs (λ (entries rest : List ℕ). past_words m rest (λ (words end : List ℕ).
    elim (done end) [ true ↦ made_text entries words | false ↦ bad_text ]))

-- how many words of entries there are, and how many words; too many of either is bad input
unfoldable pub counts_text : ℕ → ℕ → List ℕ → List ℕ
counts_text n m cs = elim (ltb entry_words_limit n) [
  | true ↦ bad_text
  | false ↦ elim (ltb words_limit m) [ true ↦ bad_text | false ↦ runs_text n m cs ]
]

unfoldable pub order_text : List ℕ → List ℕ
order_text cs = past_number cs (λ (n : ℕ) (rest : List ℕ). past_number rest (counts_text n))

-- ---- the whole
-- what is printed for a command over the rest of its text
unfoldable pub obeys : ℕ → ℕ → List ℕ → List ℕ
obeys command id rest = elim (eqb command 1) [
  | true ↦ list_text rest
  | false ↦ elim (eqb command 2) [
    | true ↦ description_text id rest
    | false ↦ elim (eqb command 3) [
      | true ↦ check_text rest
      | false ↦ elim (eqb command 4) [ true ↦ order_text rest | false ↦ bad_text ]
    ]
  ]
]

-- what is printed for a text
unfoldable pub serves : List ℕ → List ℕ
serves text =
    past_number text (λ (command : ℕ) (cs : List ℕ). past_number cs (λ (id : ℕ) (line : List ℕ).
    past_newline line (obeys command id)))
