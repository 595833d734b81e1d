-- What is printed for some texts, by computation.
-- Assumes nothing.
use Prim.Native.Nat.{ℕ}
use mathlib.Core.Path.{◌≡◌, refl}
use mathlib.Core.List.{List, [], ◌∷◌}
use lib.ListN.{replicate, set}
use Rattle.blocks.specs.Block.{sums, check, block, filled, zeros, intact}
use Rattle.library.specs.Index.{used_by, entry_good, index_good, found, start_of, index_of}
use Rattle.library.specs.Read.{whole_blocks, fetch_answer_at, fetch_answer_found, fetch_answer_by, fetch_answer}
use Rattle.library.specs.Contents.{listing}
use Rattle.library.specs.List.{list_answer_of, list_answer_by, list_answer, list_by}
use Rattle.library.specs.Check.{block_among, holder_of, checked_in, held_checked, checked_by, block_checked}
use Rattle.library.specs.File.{word_bytes, description_blocks, bodies, index_bytes, file}
use Rattle.library_writing.specs.Write.{split, listable, sound, write_answer}
use Rattle.call_text.specs.Token.{space_or_newline, digit, more, token}
use Rattle.call_text.specs.Call.{words_in, done}
use Rattle.answer_text.specs.Answer.{digits, decimal, spaced, labelled, second_line, bad_text}
use Rattle.library_text.specs.Lines.{number_line, extent_line, words_text, cost_line}
use Rattle.library_text.specs.Serves.{past_number, past_words, past_newline, listed_text, list_text, fetched_text, description_text}
use Rattle.library_text.specs.Serves.{block_line, block_lines, good_text, check_text, made_text, runs_text, counts_text, order_text}
use Rattle.library_text.specs.Serves.{obeys, serves}

-- `1 0` without a newline
pub no_newline : serves (49 ∷ 32 ∷ 48 ∷ []) ≡ bad_text
unfolding serves past_number past_newline token more space_or_newline digit
no_newline = refl

-- `5 0`
pub no_command : serves (53 ∷ 32 ∷ 48 ∷ 10 ∷ []) ≡ bad_text
unfolding serves past_number past_newline obeys token more space_or_newline digit
no_command = refl

-- `1 0` and an empty library: `answer 0 words 0`, and a line without words
pub empty_listed : serves (49 ∷ 32 ∷ 48 ∷ 10 ∷ replicate 512 0)
    ≡ 97 ∷ 110 ∷ 115 ∷ 119 ∷ 101 ∷ 114 ∷ 32 ∷ 48 ∷ 32 ∷ 119 ∷ 111 ∷ 114 ∷ 100 ∷ 115 ∷ 32 ∷ 48 ∷ 10 ∷ 10 ∷ []
unfolding serves past_number past_newline obeys token more space_or_newline digit list_text listed_text words_text extent_line
    labelled decimal digits second_line spaced list_answer list_answer_by list_answer_of list_by listing index_of start_of used_by
    intact sums zeros index_good
empty_listed = refl

-- a library of the description `1 0 0` under the identifier 7, in whose block 1 a byte is changed
unfoldable pub spoilt : List ℕ
spoilt = set (file ((7, 1 ∷ 0 ∷ 0 ∷ []) ∷ [])) 512 2

-- `3 0` and that library: `answer 0`, `block 1 costs 7`
pub damage_told : serves (51 ∷ 32 ∷ 48 ∷ 10 ∷ spoilt)
    ≡ 97 ∷ 110 ∷ 115 ∷ 119 ∷ 101 ∷ 114 ∷ 32 ∷ 48 ∷ 10 ∷ 98 ∷ 108 ∷ 111 ∷ 99 ∷ 107 ∷ 32 ∷ 49 ∷ 32 ∷ 99 ∷ 111 ∷ 115 ∷ 116 ∷ 115 ∷ 32 ∷ 55
    ∷ 10 ∷ []
unfolding serves past_number past_newline obeys token more space_or_newline digit check_text good_text number_line block_lines
    block_line cost_line labelled decimal digits block_checked checked_by held_checked checked_in holder_of block_among index_of
    start_of used_by intact sums zeros entry_good index_good spoilt file index_bytes bodies description_blocks word_bytes block
    filled check
damage_told = refl

-- `2 7` and that library: `answer 44 words 0`
pub damage_read : serves (50 ∷ 32 ∷ 55 ∷ 10 ∷ spoilt)
    ≡ 97 ∷ 110 ∷ 115 ∷ 119 ∷ 101 ∷ 114 ∷ 32 ∷ 52 ∷ 52 ∷ 32 ∷ 119 ∷ 111 ∷ 114 ∷ 100 ∷ 115 ∷ 32 ∷ 48 ∷ 10 ∷ []
unfolding serves past_number past_newline obeys token more space_or_newline digit description_text fetched_text words_text
    extent_line second_line labelled decimal digits fetch_answer fetch_answer_by fetch_answer_found fetch_answer_at whole_blocks
    found index_of start_of used_by intact sums zeros entry_good index_good spoilt file index_bytes bodies description_blocks
    word_bytes block filled check
damage_read = refl

-- `4 0`, no entry and no word: `answer 0 bytes 512` and an empty library
pub empty_written : serves (52 ∷ 32 ∷ 48 ∷ 10 ∷ 48 ∷ 32 ∷ 48 ∷ [])
    ≡ 97 ∷ 110 ∷ 115 ∷ 119 ∷ 101 ∷ 114 ∷ 32 ∷ 48 ∷ 32 ∷ 98 ∷ 121 ∷ 116 ∷ 101 ∷ 115 ∷ 32 ∷ 53 ∷ 49 ∷ 50 ∷ 10 ∷ replicate 512 0
unfolding serves past_number past_words past_newline obeys token more space_or_newline digit words_in done order_text counts_text
    runs_text made_text number_line extent_line labelled decimal digits write_answer listable sound split file index_bytes bodies
    block filled check sums
empty_written = refl

-- `4 0`, one word of entries, 7, and no word: `answer 47`
pub half_entry : serves (52 ∷ 32 ∷ 48 ∷ 10 ∷ 49 ∷ 32 ∷ 48 ∷ 32 ∷ 55 ∷ [])
    ≡ 97 ∷ 110 ∷ 115 ∷ 119 ∷ 101 ∷ 114 ∷ 32 ∷ 52 ∷ 55 ∷ 10 ∷ []
unfolding serves past_number past_words past_newline obeys token more space_or_newline digit words_in done order_text counts_text
    runs_text made_text number_line labelled decimal digits write_answer listable
half_entry = refl
