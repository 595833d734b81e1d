-- Laws of what is printed for a library, in the form in which the functions' returns ask them.
-- Assumes nothing.
use Prim.Native.Nat.{ℕ, zero, suc, ◌+◌, ◌-◌, ◌≤◌, ◌<◌}
use native.Mathlib.Omega.{arith}
use mathlib.Core.Path.{◌≡◌, refl, sym, ap, ◌∙◌}
use mathlib.Core.Bool.{Bool, true, false}
use mathlib.Core.Option.{none, some}
use Rattle.std.specs.Prelude.{Some, Ok, Err}
use mathlib.Core.List.{List, [], ◌++◌}
use lib.ListN.{length, get_or, take, drop, length-append, length-drop}
use lib.Seq.{take_at}
use borrow.Author.Tests.{ne_eqb, lt-ltb, le-ltb}
use Rattle.library.specs.Index.{Index, index_of}
use Rattle.library.specs.Read.{Fetched, fetch_answer, Fetches, words_asked}
use Rattle.library.specs.List.{Listed, list_answer, ListsLibrary, list_by}
use Rattle.library.specs.Told.{list_number, list_extent, fetch_number, fetch_extent}
use Rattle.library.specs.Check.{Checked, block_checked}
use Rattle.library.specs.File.{file}
use Rattle.library.specs.declared.list.ListError.TheVariants as listing
use Rattle.library.specs.declared.read.ReadError.TheVariants as reading
use Rattle.library.specs.declared.index.IndexError.TheVariants.{BadLength, BadStart, BadIndex}
use Rattle.library_writing.specs.declared.write.WriteError.{WriteError}
use Rattle.library.proofs.Single.{list_small, fetch_small}
use Rattle.library_writing.specs.Write.{Written, split, write_answer, WritesLibrary}
use Rattle.library_writing.specs.Told.{write_number}
use Rattle.library_writing.proofs.Single.{write_small}
use Rattle.call_text.specs.Token.{is, token}
use Rattle.call_text.specs.Call.{words_in, done}
use Rattle.call_text.specs.declared.number.Token.{Token}
use Rattle.call_text.proofs.Tokens.{meant}
use Rattle.call_text.proofs.Runs.{Other}
use Rattle.answer_text.specs.Answer.{words_label, bad_text}
use Rattle.answer_text.specs.Going.{Appends}
use Rattle.answer_text.proofs.Goings.{named, nothing}
use Rattle.answer_text.proofs.Answers.{second_none}
use Rattle.library_text.specs.Lines.{bytes_label, number_line, extent_line, words_text}
use Rattle.library_text.specs.Serves.{list_room, description_room, listed_text, list_text, fetched_text, description_text}
use Rattle.library_text.specs.Serves.{checked_line, block_line, block_lines, check_by, check_text}
use Rattle.library_text.specs.Serves.{entry_words_limit, words_limit, file_room, made_by, made_text, runs_text, counts_text}
use Rattle.library_text.specs.Serves.{past_number, past_newline, order_text, obeys, serves}
use Rattle.library_text.proofs.Parts.{number_stands, number_missing, words_stand, words_missing}
use Rattle.library_text.proofs.Parts.{rest_of, newline_over, newline_other, newline_stands}

-- ---- words of an area
-- what an area of its old length holds in front, before what it held from n on
front_of : (ws area area' : List ℕ) (n : ℕ) → area' ≡ ws ++ drop n area → n ≤ length area → length area' ≡ length area
    → take n area' ≡ ws
front_of ws area area' n e h k =
    let a : length area' ≡ length ws + length (drop n area) = ap length e ∙ length-append ws (drop n area) in
    let d = length-drop n area in
    ap (take n) e ∙ take_at ws (drop n area) n (omega arith)

words_untold : (number extent : ℕ) (xs ys : List ℕ) → (number ≡ 0 → ⊥) → words_text number extent xs ≡ words_text number extent ys
unfolding words_text
words_untold number extent xs ys h =
    ap (λ (l : List ℕ). extent_line number words_label extent ++ l) (sym (second_none number xs h) ∙ second_none number ys h)

-- after 0 the words that were left in front of the area are printed, after another number none
words_told : (ws area area' : List ℕ) (number extent : ℕ) → (number ≡ 0 → area' ≡ ws ++ drop extent area) → extent ≤ length area
    → length area' ≡ length area → words_text number extent (take extent area') ≡ words_text number extent ws
words_told ws area area' zero extent h k e = ap (words_text 0 extent) (front_of ws area area' extent (h refl) k e)
words_told ws area area' (suc number) extent h k e = words_untold (suc number) extent (take extent area') ws (λ d. omega arith)

-- an answer r, of which an area tells number, extent and words, is printed as the answer s, which is the same
module _ {A : Type 0} (number_of_lem extent-of : A → ℕ) (ws area area' : List ℕ) (r s : A) (same : r ≡ s) where
  answer_printed : (number_of_lem r ≡ 0 → area' ≡ ws ++ drop (extent-of r) area) → extent-of r ≤ length area → length area' ≡ length area
      → (number extent : ℕ) → number ≡ number_of_lem r → extent ≡ extent-of r
      → words_text number extent (take extent area') ≡ words_text (number_of_lem s) (extent-of s) ws
  answer_printed leaves low kept number extent e g =
      ap (λ (n : ℕ). words_text n extent (take extent area')) e ∙ ap (λ (n : ℕ). words_text (number_of_lem r) n (take n area')) g
      ∙ words_told ws area area' (number_of_lem r) (extent-of r) leaves low kept
      ∙ ap (λ (x : A). words_text (number_of_lem x) (extent-of x) ws) same

-- ---- 1
module _ (f area area' : List ℕ) where
  list_leaves : (r : Listed) → ListsLibrary f area area' r → list_number r ≡ 0
      → area' ≡ list_by (index_of f) f ++ drop (list_extent r) area
  list_leaves (Ok n) p e = p.leaves
  list_leaves (Err (listing.NoRoom n)) p e = absurd (omega arith)
  list_leaves (Err (listing.Index BadIndex)) p e = absurd (omega arith)
  list_leaves (Err (listing.Index BadStart)) p e = absurd (omega arith)
  list_leaves (Err (listing.Index BadLength)) p e = absurd (omega arith)

  module _ (size : length area ≡ list_room) (r : Listed) (p : ListsLibrary f area area' r) where
    pub list_within : list_extent r ≤ length area
    list_within = let h = list_small f area area' r p in omega arith

    pub list_printed : length area' ≡ length area → (number extent : ℕ) → number ≡ list_number r → extent ≡ list_extent r
        → words_text number extent (take extent area') ≡ list_text f
    unfolding list_text listed_text
    list_printed =
        answer_printed list_number list_extent (list_by (index_of f) f) area area' r (list_answer f list_room)
        (p.answer ∙ ap (list_answer f) size) (list_leaves r p) list_within

-- ---- 2
module _ (f : List ℕ) (id : ℕ) (area area' : List ℕ) where
  fetch_leaves : (r : Fetched) → Fetches f id area area' r → fetch_number r ≡ 0
      → area' ≡ words_asked f id ++ drop (fetch_extent r) area
  fetch_leaves (Ok n) p e = p.leaves
  fetch_leaves (Err (reading.NoRoom n)) p e = absurd (omega arith)
  fetch_leaves (Err reading.Malformed) p e = absurd (omega arith)
  fetch_leaves (Err reading.Damaged) p e = absurd (omega arith)
  fetch_leaves (Err reading.Absent) p e = absurd (omega arith)
  fetch_leaves (Err (reading.Index BadIndex)) p e = absurd (omega arith)
  fetch_leaves (Err (reading.Index BadStart)) p e = absurd (omega arith)
  fetch_leaves (Err (reading.Index BadLength)) p e = absurd (omega arith)

  module _ (size : length area ≡ description_room) (r : Fetched) (p : Fetches f id area area' r) where
    pub fetch_within : fetch_extent r ≤ length area
    fetch_within = let h = fetch_small f id area area' r p in omega arith

    pub fetch_printed : length area' ≡ length area → (number extent : ℕ) → number ≡ fetch_number r → extent ≡ fetch_extent r
        → words_text number extent (take extent area') ≡ description_text id f
    unfolding description_text fetched_text
    fetch_printed =
        answer_printed fetch_number fetch_extent (words_asked f id) area area' r (fetch_answer f id description_room)
        (p.answer ∙ ap (fetch_answer f id) size) (fetch_leaves r p) fetch_within

-- ---- 3
module _ (k : ℕ) (f : List ℕ) where
  pub line_checked : (x : Checked) → x ≡ block_checked k f → checked_line k x ≡ block_line k f
  unfolding block_line
  line_checked x e = ap (checked_line k) e

  -- nothing is written of a block that is not damaged
  pub line_none : (x : Checked) → x ≡ block_checked k f → checked_line k x ≡ [] → (dst : List ℕ) (at : ℕ)
      → Appends (block_line k f) dst at dst (Some at)
  line_none x e quiet dst at = named [] (block_line k f) dst at dst (Some at) (sym quiet ∙ line_checked x e) (nothing dst at)

module _ (f : List ℕ) where
  pub lines_next : (total k : ℕ) → k < total → block_lines (total - k) k f ≡ block_line k f ++ block_lines (total - (k + 1)) (k + 1) f
  unfolding block_lines
  lines_next total k h =
      let e : total - k ≡ suc (total - (k + 1)) = omega arith in
      ap (λ (n : ℕ). block_lines n k f) e

  pub lines_end : (total k : ℕ) → total ≤ k → block_lines (total - k) k f ≡ []
  unfolding block_lines
  lines_end total k h =
      let e : total - k ≡ 0 = omega arith in
      ap (λ (n : ℕ). block_lines n k f) e

  pub check_printed : (x : Index) → x ≡ index_of f → check_by x f ≡ check_text f
  unfolding check_text
  check_printed x e = ap (λ (y : Index). check_by y f) e

-- ---- 4
module _ (es ws area area' : List ℕ) (size : length area ≡ file_room) where
  abbrev bytes : List ℕ
  bytes = file (split es ws)

  made_is : (r : Written) → WritesLibrary es ws area area' r → made_by r bytes ≡ made_text es ws
  unfolding made_text
  made_is r p = ap (λ (x : Written). made_by x bytes) (p.answer ∙ ap (write_answer es ws) size)

  pub made_refused : (e : WriteError) → WritesLibrary es ws area area' (Err e) → number_line (write_number (Err e)) ≡ made_text es ws
  made_refused e p = made_is (Err e) p

  module _ (n : ℕ) (p : WritesLibrary es ws area area' (Ok n)) where
    pub made_within : n ≤ length area
    made_within = let h = write_small es ws area area' (Ok n) p in omega arith

    pub made_printed : length area' ≡ length area → extent_line 0 bytes_label n ++ take n area' ≡ made_text es ws
    made_printed kept =
        ap (λ (l : List ℕ). extent_line 0 bytes_label n ++ l) (front_of bytes area area' n p.leaves made_within kept) ∙ made_is (Ok n) p

module _ (n m : ℕ) (cs entries rest : List ℕ) (one : words_in n cs ≡ some (entries, rest)) where
  pub runs_stop : words_in m rest ≡ none → bad_text ≡ runs_text n m cs
  unfolding runs_text
  runs_stop e = words_missing m rest _ e ∙ words_stand n cs _ entries rest one

  module _ (words end : List ℕ) (two : words_in m rest ≡ some (words, end)) where
    ended : (t : Bool) → done end ≡ t → elim t [ true ↦ made_text entries words | false ↦ bad_text ] ≡ runs_text n m cs
    unfolding runs_text
    ended t e =
        ap {B = List ℕ} (λ (t : Bool). elim t [ true ↦ made_text entries words | false ↦ bad_text ]) (sym e)
        ∙ words_stand m rest _ words end two ∙ words_stand n cs _ entries rest one

    pub runs_over : done end ≡ true → made_text entries words ≡ runs_text n m cs
    runs_over e = ended true e

    pub runs_more : done end ≡ false → bad_text ≡ runs_text n m cs
    runs_more e = ended false e

pub runs_none : (n m : ℕ) (cs : List ℕ) → words_in n cs ≡ none → bad_text ≡ runs_text n m cs
unfolding runs_text
runs_none n m cs e = words_missing n cs _ e

module _ (n m : ℕ) (cs : List ℕ) where
  counts_many : entry_words_limit < n → bad_text ≡ counts_text n m cs
  unfolding counts_text
  counts_many h = let e = lt-ltb entry_words_limit n h in rw (e, counts_text)

  counts_long : n ≤ entry_words_limit → words_limit < m → bad_text ≡ counts_text n m cs
  unfolding counts_text
  counts_long few h = let d = le-ltb entry_words_limit n few in let e = lt-ltb words_limit m h in rw (d, e, counts_text)

  counts_fine : n ≤ entry_words_limit → m ≤ words_limit → runs_text n m cs ≡ counts_text n m cs
  unfolding counts_text
  counts_fine few h = let d = le-ltb entry_words_limit n few in let e = le-ltb words_limit m h in rw (d, e, counts_text)

module _ (text : List ℕ) where
  pub order_none : (r : Token) → meant text r ≡ token text → Other r → bad_text ≡ order_text text
  unfolding order_text
  order_none r e o = number_missing text _ text r e o

  module _ (n q : ℕ) (one : is n (drop q text) ≡ token text) where
    ordered : past_number (drop q text) (counts_text n) ≡ order_text text
    unfolding order_text
    ordered = number_stands text _ n (drop q text) one

    pub order_stop : (r : Token) → meant text r ≡ token (drop q text) → Other r → bad_text ≡ order_text text
    order_stop r e o = number_missing (drop q text) (counts_text n) text r e o ∙ ordered

    module _ (m p : ℕ) (two : is m (drop p text) ≡ token (drop q text)) (n' : ℕ) (same : n' ≡ n) where
      counted : counts_text n' m (drop p text) ≡ order_text text
      counted =
          ap (λ (k : ℕ). counts_text k m (drop p text)) same ∙ number_stands (drop q text) (counts_text n) m (drop p text) two ∙ ordered

      pub order_many : entry_words_limit < n' → bad_text ≡ order_text text
      order_many h = counts_many n' m (drop p text) h ∙ counted

      module _ (few : n' ≤ entry_words_limit) (m' : ℕ) (alike : m' ≡ m) where
        both_counted : counts_text n' m' (drop p text) ≡ order_text text
        both_counted = ap (λ (k : ℕ). counts_text n' k (drop p text)) alike ∙ counted

        pub order_long : words_limit < m' → bad_text ≡ order_text text
        order_long h = counts_long n' m' (drop p text) few h ∙ both_counted

        pub order_fine : m' ≤ words_limit → runs_text n' m' (drop p text) ≡ order_text text
        order_fine h = counts_fine n' m' (drop p text) few h ∙ both_counted

-- ---- the whole
pub obeys_other : (id : ℕ) (rest : List ℕ) (c : ℕ) → (c ≡ 1 → ⊥) → (c ≡ 2 → ⊥) → (c ≡ 3 → ⊥) → (c ≡ 4 → ⊥)
    → bad_text ≡ obeys c id rest
unfolding obeys
obeys_other id rest c p q r s =
    let a = ne_eqb c 1 p in
    let b = ne_eqb c 2 q in
    let d = ne_eqb c 3 r in
    let e = ne_eqb c 4 s in
    rw (a, b, d, e, obeys)

module _ (text : List ℕ) where
  pub serves_none : (r : Token) → meant text r ≡ token text → Other r → bad_text ≡ serves text
  unfolding serves
  serves_none r e o = number_missing text _ text r e o

  module _ (command q : ℕ) (one : is command (drop q text) ≡ token text) where
    abbrev by_identifier : ℕ → List ℕ → List ℕ
    by_identifier id line = past_newline line (obeys command id)

    headed : past_number (drop q text) by_identifier ≡ serves text
    unfolding serves
    headed = number_stands text _ command (drop q text) one

    pub serves_stop : (r : Token) → meant text r ≡ token (drop q text) → Other r → bad_text ≡ serves text
    serves_stop r e o = number_missing (drop q text) by_identifier text r e o ∙ headed

    module _ (id end : ℕ) (two : is id (drop end text) ≡ token (drop q text)) where
      lined : past_newline (drop end text) (obeys command id) ≡ serves text
      lined = number_stands (drop q text) by_identifier id (drop end text) two ∙ headed

      pub serves_over : length text ≤ end → bad_text ≡ serves text
      serves_over h = newline_over text end (obeys command id) h ∙ lined

      module _ (here : end < length text) where
        pub serves_other : (get_or text end 0 ≡ 10 → ⊥) → bad_text ≡ serves text
        serves_other h = newline_other text end (obeys command id) here h ∙ lined

        pub serves_there : get_or text end 0 ≡ 10 → obeys command id (rest_of (end + 1) text) ≡ serves text
        serves_there h = newline_stands text end (obeys command id) here h ∙ lined
