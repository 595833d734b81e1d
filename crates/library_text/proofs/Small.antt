-- What is printed for a text has at most 280,000 bytes.
-- Assumes nothing.
use Prim.Native.Nat.{ℕ, zero, suc, ◌+◌, ◌*◌, ◌/◌, ◌≤◌, ◌<◌}
use native.Mathlib.Omega.{arith}
use mathlib.Core.Path.{◌≡◌, refl, sym, ap, subst, ◌∙◌}
use mathlib.Core.Logic.{inr}
use mathlib.Core.Bool.{Bool, true, false}
use mathlib.Core.Option.{Option, none, some}
use Rattle.std.specs.Prelude.{Some, None, Ok, Err}
use mathlib.Core.List.{List, [], ◌∷◌, ◌++◌}
use lib.ListN.{length, get_or, drop, replicate, length-append, length-replicate}
use lib.Seq.{get_or-append-add}
use lib.Dec.{eqb, leb, ltb}
use borrow.Author.Tests.{eqb-true, leb-true}
use Rattle.theory.specs.Limits.{input_limit, depth_limit}
use Rattle.theory.specs.Layout.{words}
use Rattle.theory.specs.LayoutOne.{Image}
use Rattle.theory.proofs.Small.{below_at, words_below}
use Rattle.blocks.specs.Block.{block_size, whichever, pair_at, intact, block_of}
use Rattle.blocks.specs.Byte.{Bytes}
use Rattle.blocks.proofs.Whole.{bytes_drop, bytes_take, whichever_true}
use Rattle.library.specs.Index.{Index, least_words, room_of, entry_good, index_good, index_of}
use Rattle.library.specs.Read.{Fetched, words_from, words_found, words_by, words_asked, fetch_answer, area_after}
use Rattle.library.specs.Contents.{listing}
use Rattle.library.specs.List.{Listed, list_answer_of, list_answer_by, list_answer, list_by}
use Rattle.library.specs.Told.{list_number, list_extent, fetch_number, fetch_extent}
use Rattle.library.specs.Rules.{count_in, GoodStart, FindsAt}
use Rattle.library.specs.Rules.{Why, odd, spoilt, broken, absent, damaged, malformed, short, fine}
use Rattle.library.specs.Rules.{WhyListed, odd_list, spoilt_list, broken_list, short_list, fine_list}
use Rattle.library.specs.Check.{Checked, block_among, holder_of, checked_in, held_checked, checked_by, block_checked}
use Rattle.library.specs.declared.index.IndexError.TheVariants.{BadLength, BadStart, BadIndex}
use Rattle.library.specs.declared.index.Place.{Place}
use Rattle.library.specs.declared.list.ListError.TheVariants as listing_error
use Rattle.library.specs.declared.survey.Holder.{Holder}
use Rattle.library.proofs.Order.{few_is, good_is, why, list_why}
use Rattle.library.proofs.Reading.{words_length}
use Rattle.library.proofs.Single.{fetch_small}
use Rattle.library.specs.File.{file}
use Rattle.library_writing.specs.Write.{Written, split, need, write_answer}
use Rattle.library_writing.specs.Reasons.{WhyWritten}
use Rattle.library_writing.specs.Reasons as reason
use Rattle.library_writing.proofs.Causes.{write_why}
use Rattle.call_text.specs.Token.{largest, Start, is, over, bad, token}
use Rattle.call_text.specs.Call.{Taken, words_in, done}
use Rattle.call_text.proofs.Tokens.{Ends, token_ends}
use Rattle.answer_text.specs.Answer.{newline, answer_label, words_label, labelled, second_line, bad_text}
use Rattle.answer_text.proofs.Answers.{labelled-most, second-most, second_none}
use Rattle.library_text.specs.Lines.{bytes_label, block_label, costs_label, number_line, extent_line, words_text, cost_line}
use Rattle.library_text.specs.Serves.{past_number, past_words, past_newline, list_room, description_room}
use Rattle.library_text.specs.Serves.{listed_text, list_text, fetched_text, description_text}
use Rattle.library_text.specs.Serves.{checked_line, block_line, block_lines, good_text, check_by, check_text}
use Rattle.library_text.specs.Serves.{file_room, made_by, made_text, runs_text}
use Rattle.library_text.specs.Serves.{entry_words_limit, words_limit, counts_text, order_text}
use Rattle.library_text.specs.Serves.{obeys, serves}

-- ---- lines
number_most : (n : ℕ) → n ≤ largest → length (number_line n) ≤ 18
unfolding number_line
number_most n h =
    let a = labelled-most answer_label n h in
    let e = length-append (labelled answer_label n) newline in
    omega arith

module _ (number extent : ℕ) (few : number ≤ largest) (low : extent ≤ largest) where
  extent_most : (label : List ℕ) → length label ≤ 7 → length (extent_line number label extent) ≤ 35
  unfolding extent_line
  extent_most label h =
      let a = labelled-most answer_label number few in
      let b = labelled-most label extent low in
      let e = length-append (labelled answer_label number) (labelled label extent ++ newline) in
      let d = length-append (labelled label extent) newline in
      omega arith

  words_most : (ws : List ℕ) (m : ℕ) → length (second_line number ws) ≤ m → length (words_text number extent ws) ≤ 35 + m
  unfolding words_text
  words_most ws m h =
      let a = extent_most words_label (omega arith) in
      let e = length-append (extent_line number words_label extent) (second_line number ws) in
      omega arith

-- after another number than 0 there is one line
refused_most : (number extent : ℕ) (ws : List ℕ) → 0 < number → number ≤ largest → extent ≤ largest
    → length (words_text number extent ws) ≤ 11400
refused_most number extent ws other few low =
    let e = ap length (second_none number ws (λ z. omega arith)) in
    let h = words_most number extent few low ws 0 (omega arith) in
    omega arith

-- ---- bytes
pair_low : (b : List ℕ) → Bytes b → (i : ℕ) → pair_at b i < 65536
pair_low b byte i = let x = byte i in let y = byte (i + 1) in omega arith

rest_bytes : (cs front rest : List ℕ) → Bytes cs → cs ≡ front ++ rest → Bytes rest
rest_bytes cs front rest byte e i =
    let h = byte (length front + i) in
    let g = ap (λ (l : List ℕ). get_or l (length front + i) 0) e ∙ get_or-append-add front rest i 0 in
    omega arith

start_bytes : (f : List ℕ) → Bytes f → Bytes (block_of 0 f)
start_bytes f byte = bytes_take block_size (drop (block_size * 0) f) (bytes_drop (block_size * 0) f byte)

-- ---- 1
module _ (b : List ℕ) (byte : Bytes b) where
  listing_fits : (c p i : ℕ) → get_or (listing c p b) i 0 ≤ largest
  unfolding listing
  listing_fits zero p i = omega arith
  listing_fits (suc c) p zero = let h = pair_low b byte p in omega arith
  listing_fits (suc c) p (suc zero) = let h = pair_low b byte (p + 4) in omega arith
  listing_fits (suc c) p (suc (suc i)) = listing_fits c (p + 8) i

  listing_most : (c p : ℕ) → length (listing c p b) ≤ 2 * c
  unfolding listing
  listing_most zero p = omega arith
  listing_most (suc c) p = let h = listing_most c (p + 8) in omega arith

module _ (f : List ℕ) where
  listed_is : GoodStart f → list_by (index_of f) f ≡ listing (count_in f) 2 (block_of 0 f)
  unfolding list_by
  listed_is o = ap (λ (x : Index). list_by x f) (sym (good_is f o))

  module _ (byte : Bytes f) where
    list_most : (r : Listed) → WhyListed f list_room r
        → length (words_text (list_number r) (list_extent r) (list_by (index_of f) f)) ≤ 11400
    list_most _ (odd_list h) = refused_most 40 0 (list_by (index_of f) f) (omega arith) (omega arith) (omega arith)
    list_most _ (spoilt_list h s) = refused_most 41 0 (list_by (index_of f) f) (omega arith) (omega arith) (omega arith)
    list_most _ (broken_list h s g) = refused_most 42 0 (list_by (index_of f) f) (omega arith) (omega arith) (omega arith)
    list_most _ (short_list o k) =
        let few = few_is f o.kept in
        refused_most 46 (2 * count_in f) (list_by (index_of f) f) (omega arith) (omega arith) (omega arith)
    list_most _ (fine_list o k) =
        let b = block_of 0 f in
        let c = count_in f in
        let few = few_is f o.kept in
        let m = listing_most b (start_bytes f byte) c 2 in
        let second = second-most 0 (listing c 2 b) (λ i h. listing_fits b (start_bytes f byte) c 2 i) in
        let whole = words_most 0 (2 * c) (omega arith) (omega arith) (listing c 2 b) 1321 (omega arith) in
        subst (λ (ws : List ℕ). length (words_text 0 (2 * c) ws) ≤ 11400) (sym (listed_is o)) (omega arith)

    list_short : length (list_text f) ≤ 11400
    unfolding list_text listed_text
    list_short = list_most (list_answer f list_room) (list_why f list_room)

-- ---- 2
image_fits : (ws : List ℕ) → Image ws → length ws ≤ 1024 → (i : ℕ) → i < length ws → get_or ws i 0 ≤ largest
image_fits ws (d, well, e) few i h =
    let size = ap length e in
    let low = words_below d depth_limit well (omega arith) in
    let here = below_at (words d) low i (omega arith) in
    let same = ap (λ (l : List ℕ). get_or l i 0) e in
    omega arith

module _ (f : List ℕ) (id : ℕ) where
  asked_is : (k n : ℕ) → FindsAt f id k n → words_asked f id ≡ words_from k 0 n f
  unfolding words_asked words_by words_found
  asked_is k n h =
      ap (λ (x : Index). words_by x id f) (sym (good_is f h.begins)) ∙ ap (λ (x : Rattle.std.specs.Prelude.Option Place). words_found x f) h.found

  fetch_few : (room : ℕ) → fetch_extent (fetch_answer f id room) ≤ input_limit
  fetch_few room =
      let area : List ℕ = replicate room 0 in
      let r = fetch_answer f id room in
      fetch_small f id area (area_after r (words_asked f id) area) r
      (record { answer = ap (fetch_answer f id) (sym (length-replicate room 0)); leaves = refl })

  fetch_most : (r : Fetched) → Why f id description_room r → fetch_extent r ≤ input_limit
      → length (words_text (fetch_number r) (fetch_extent r) (words_asked f id)) ≤ 11400
  fetch_most _ (odd h) l = refused_most 40 0 (words_asked f id) (omega arith) (omega arith) (omega arith)
  fetch_most _ (spoilt h s) l = refused_most 41 0 (words_asked f id) (omega arith) (omega arith) (omega arith)
  fetch_most _ (broken h s g) l = refused_most 42 0 (words_asked f id) (omega arith) (omega arith) (omega arith)
  fetch_most _ (absent o e) l = refused_most 43 0 (words_asked f id) (omega arith) (omega arith) (omega arith)
  fetch_most _ (damaged k n h w) l = refused_most 44 0 (words_asked f id) (omega arith) (omega arith) (omega arith)
  fetch_most _ (malformed k n h w i) l = refused_most 45 0 (words_asked f id) (omega arith) (omega arith) (omega arith)
  fetch_most _ (short k n h w i s) l = refused_most 46 n (words_asked f id) (omega arith) (omega arith) (omega arith)
  fetch_most _ (fine k n h w i s) l =
      let ws = words_from k 0 n f in
      let size = words_length f n k 0 in
      let second = second-most 0 ws (image_fits ws i (omega arith)) in
      let whole = words_most 0 n (omega arith) (omega arith) ws 11265 (omega arith) in
      subst (λ (l : List ℕ). length (words_text 0 n l) ≤ 11400) (sym (asked_is k n h)) (omega arith)

  description_short : length (description_text id f) ≤ 11400
  unfolding description_text fetched_text
  description_short = fetch_most (fetch_answer f id description_room) (why f id description_room) (fetch_few description_room)

-- ---- 3
cost_most : (k id : ℕ) → k ≤ largest → id ≤ largest → length (cost_line k id) ≤ 34
unfolding cost_line
cost_most k id low small =
    let a = labelled-most block_label k low in
    let b = labelled-most costs_label id small in
    let e = length-append (labelled block_label k) (labelled costs_label id ++ newline) in
    let d = length-append (labelled costs_label id) newline in
    omega arith

-- an identifier has 16 bits
abbrev LowHolder : Rattle.std.specs.Prelude.Option Holder → Type 0
LowHolder (Some h) = h.identifier ≤ largest
LowHolder None = Unit {0}

abbrev LowCost : Checked → Type 0
LowCost (Ok (Some id)) = id ≤ largest
LowCost (Ok None) = Unit {0}
LowCost (Err e) = Unit {0}

holder_low : (b : List ℕ) → Bytes b → (k c p : ℕ) → LowHolder (holder_of k c p b)
unfolding holder_of
holder_low b byte k zero p = tt
holder_low b byte k (suc c) p =
    let low = pair_low b byte p in
    go (block_among (pair_at b (p + 2)) (pair_at b (p + 4)) k) _ _ (omega arith) (holder_low b byte k c (p + 8))
  where
    go : (t : Bool) (x y : Rattle.std.specs.Prelude.Option Holder) → LowHolder x → LowHolder y → LowHolder (whichever t x y)
    go true x y h g = h
    go false x y h g = g

module _ (f : List ℕ) (byte : Bytes f) (k : ℕ) where
  in_low : (h : Rattle.std.specs.Prelude.Option Holder) → LowHolder h → LowCost (checked_in h k f)
  unfolding checked_in
  in_low (Some h) low = go h.identifier low (intact h.used k (block_of k f))
    where
      go : (id : ℕ) → id ≤ largest → (t : Bool) → LowCost (whichever {A = Checked} t (Ok None) (Ok (Some id)))
      go id low true = tt
      go id low false = low
  in_low None low = tt

  held_low : (count : ℕ) → LowCost (held_checked k count f)
  unfolding held_checked
  held_low count = go (eqb k 0) _ (in_low (holder_of k count 2 (block_of 0 f)) (holder_low (block_of 0 f) (start_bytes f byte) k count 2))
    where
      go : (t : Bool) (x : Checked) → LowCost x → LowCost (whichever t (Ok None) x)
      go true x h = tt
      go false x h = h

  by_low : (x : Index) → LowCost (checked_by x k f)
  unfolding checked_by
  by_low (Ok count) = held_low count
  by_low (Err e) = tt

  checked_most : (x : Checked) → LowCost x → k ≤ largest → length (checked_line k x) ≤ 34
  checked_most (Ok (Some id)) h l = cost_most k id l h
  checked_most (Ok None) h l = omega arith
  checked_most (Err e) h l = omega arith

  line_most : k ≤ largest → length (block_line k f) ≤ 34
  unfolding block_line block_checked
  line_most l = checked_most (checked_by (index_of f) k f) (by_low (index_of f)) l

lines_most : (f : List ℕ) → Bytes f → (n k : ℕ) → k + n ≤ largest → length (block_lines n k f) ≤ 34 * n
unfolding block_lines
lines_most f byte zero k h = omega arith
lines_most f byte (suc n) k h =
    let a = line_most f byte k (omega arith) in
    let b = lines_most f byte n (k + 1) (omega arith) in
    let e = length-append (block_line k f) (block_lines n (k + 1) f) in
    omega arith

-- a good index tells of at most 9 blocks an entry
entry_few : (low next p : ℕ) (b : List ℕ) → entry_good low next p b ≡ true → pair_at b (p + 4) ≤ 1024
unfolding entry_good
entry_few low next p b e =
    let last = eqb (pair_at b (p + 6)) 0 in
    let most = whichever (leb (pair_at b (p + 4)) input_limit) last false in
    let least = whichever (leb least_words (pair_at b (p + 4))) most false in
    let follows = whichever (eqb (pair_at b (p + 2)) next) least false in
    let x = whichever_true (leb low (pair_at b p)) follows e in
    let y = whichever_true (eqb (pair_at b (p + 2)) next) least x.1 in
    let z = whichever_true (leb least_words (pair_at b (p + 4))) most y.1 in
    leb-true (pair_at b (p + 4)) input_limit (whichever_true (leb (pair_at b (p + 4)) input_limit) last z.1).0

index_few : (c low next p : ℕ) (b : List ℕ) (total : ℕ) → index_good c low next p b total ≡ true → total ≤ next + 9 * c
unfolding index_good
index_few zero low next p b total e = let h = eqb-true next total e in omega arith
index_few (suc c) low next p b total e =
    let onward = next + room_of (pair_at b (p + 4)) in
    let q = whichever_true (entry_good low next p b) (index_good c (pair_at b p + 1) onward (p + 8) b total) e in
    let here = entry_few low next p b q.0 in
    let more = index_few c (pair_at b p + 1) onward (p + 8) b total q.1 in
    omega arith

true_is : (t : Bool) → ¬ (t ≡ false) → t ≡ true
true_is true h = refl
true_is false h = absurd (h refl)

blocks_few : (f : List ℕ) → GoodStart f → length f / block_size ≤ 541
blocks_few f o =
    let few = few_is f o.kept in
    let good = true_is (index_good (count_in f) 0 1 2 (block_of 0 f) (length f / block_size)) (λ e. o.kept (inr e)) in
    let h = index_few (count_in f) 0 1 2 (block_of 0 f) (length f / block_size) good in
    omega arith

-- where there is a list, the index is good
abbrev Begins : List ℕ → Listed → Type 0
Begins f (Ok n) = GoodStart f
Begins f (Err (listing_error.NoRoom n)) = GoodStart f
Begins f (Err (listing_error.Index e)) = Unit {0}

begins : (f : List ℕ) (room : ℕ) (r : Listed) → WhyListed f room r → Begins f r
begins f room _ (odd_list h) = tt
begins f room _ (spoilt_list h s) = tt
begins f room _ (broken_list h s g) = tt
begins f room _ (short_list o l) = o
begins f room _ (fine_list o l) = o

good_begins : (f : List ℕ) (count : ℕ) → Ok count ≡ index_of f → GoodStart f
unfolding list_answer list_answer_by list_answer_of
good_begins f count e =
    go (leb (2 * count) 0) (subst (λ (x : Index). Begins f (list_answer_by x 0)) (sym e) (begins f 0 (list_answer f 0) (list_why f 0)))
  where
    go : (t : Bool) → Begins f (whichever {A = Listed} t (Ok (2 * count)) (Err (listing_error.NoRoom (2 * count)))) → GoodStart f
    go true o = o
    go false o = o

module _ (f : List ℕ) (byte : Bytes f) where
  good_most : GoodStart f → length (good_text f) ≤ 18500
  unfolding good_text
  good_most o =
      let few = blocks_few f o in
      let a = number_most 0 (omega arith) in
      let b = lines_most f byte (length f / block_size) 0 (omega arith) in
      let e = length-append (number_line 0) (block_lines (length f / block_size) 0 f) in
      omega arith

  check_most : (x : Index) → x ≡ index_of f → length (check_by x f) ≤ 18500
  check_most (Ok count) e = good_most (good_begins f count e)
  check_most (Err BadLength) e = let h = number_most 40 (omega arith) in omega arith
  check_most (Err BadStart) e = let h = number_most 41 (omega arith) in omega arith
  check_most (Err BadIndex) e = let h = number_most 42 (omega arith) in omega arith

  check_short : length (check_text f) ≤ 18500
  unfolding check_text
  check_short = check_most (index_of f) refl

-- ---- 4
module _ (es ws : List ℕ) where
  made_most : (r : Written) → WhyWritten es ws file_room r → length (made_by r (file (split es ws))) ≤ 280000
  made_most _ (reason.unlisted o) = let h = number_most 47 (omega arith) in omega arith
  made_most _ (reason.malformed o d) = let h = number_most 45 (omega arith) in omega arith
  made_most _ (reason.short o d l) = let h = number_most 46 (omega arith) in omega arith
  made_most _ (reason.fine o d l) =
      let n = need es ws in
      let a = extent_most 0 n (omega arith) (omega arith) bytes_label (omega arith) in
      let e = length-append (extent_line 0 bytes_label n) (file (split es ws)) in
      omega arith

  made_short : length (made_text es ws) ≤ 280000
  unfolding made_text
  made_short = made_most (write_answer es ws file_room) (write_why es ws file_room)

-- ---- the parts of a text: where all that may follow is short, the whole is
abbrev Short : List ℕ → Type 0
Short l = length l ≤ 280000

bad_short : Short bad_text
bad_short = omega arith

-- the text after a number has bytes where the whole has
number_short : (cs : List ℕ) (go : ℕ → List ℕ → List ℕ) → Bytes cs → ((v : ℕ) (rest : List ℕ) → Bytes rest → Short (go v rest))
    → Short (past_number cs go)
unfolding past_number
number_short cs go byte all = by (token cs) (token_ends cs)
  where
    by : (s : Start) → Ends cs s → Short (elim s [ is v rest ↦ go v rest | over ↦ bad_text | bad ↦ bad_text ])
    by (is v rest) (front, e) = all v rest (rest_bytes cs front rest byte e)
    by over e = bad_short
    by bad e = bad_short

run_short : (n : ℕ) (cs : List ℕ) (go : List ℕ → List ℕ → List ℕ) → ((xs rest : List ℕ) → Short (go xs rest)) → Short (past_words n cs go)
unfolding past_words
run_short n cs go all = by (words_in n cs)
  where
    by : (o : Option Taken) → Short (elim o [ none ↦ bad_text | some t ↦ go t.0 t.1 ])
    by none = bad_short
    by (some t) = all t.0 t.1

newline_short : (cs : List ℕ) (go : List ℕ → List ℕ) → Bytes cs → ((rest : List ℕ) → Bytes rest → Short (go rest))
    → Short (past_newline cs go)
unfolding past_newline
newline_short [] go byte all = bad_short
newline_short (c ∷ cs) go byte all = by (eqb c 10)
  where
    by : (t : Bool) → Short (elim t [ true ↦ go cs | false ↦ bad_text ])
    by true = all cs (λ i. byte (suc i))
    by false = bad_short

either_short : (t : Bool) (xs ys : List ℕ) → Short xs → Short ys → Short (elim t [ true ↦ xs | false ↦ ys ])
either_short true xs ys h k = h
either_short false xs ys h k = k

runs_short : (n m : ℕ) (cs : List ℕ) → Short (runs_text n m cs)
unfolding runs_text
runs_short n m cs =
    run_short n cs _ (λ entries rest. run_short m rest _
    (λ words end. either_short (done end) (made_text entries words) bad_text (made_short entries words) bad_short))

counts_short : (n m : ℕ) (cs : List ℕ) → Short (counts_text n m cs)
unfolding counts_text
counts_short n m cs =
    either_short (ltb entry_words_limit n) bad_text _ bad_short
    (either_short (ltb words_limit m) bad_text (runs_text n m cs) bad_short (runs_short n m cs))

order_short : (cs : List ℕ) → Bytes cs → Short (order_text cs)
unfolding order_text
order_short cs byte =
    number_short cs _ byte (λ n rest more. number_short rest (counts_text n) more (λ m words last. counts_short n m words))

obeys_short : (command id : ℕ) (rest : List ℕ) → Bytes rest → Short (obeys command id rest)
unfolding obeys
obeys_short command id rest byte =
    let one = list_short rest byte in
    let two = description_short rest id in
    let three = check_short rest byte in
    either_short (eqb command 1) (list_text rest) _ (omega arith)
    (either_short (eqb command 2) (description_text id rest) _ (omega arith)
    (either_short (eqb command 3) (check_text rest) _ (omega arith)
    (either_short (eqb command 4) (order_text rest) bad_text (order_short rest byte) bad_short)))

-- whatever bytes the text has, what is printed for it is short
pub serves_small : (text : List ℕ) → Bytes text → length (serves text) ≤ 280000
unfolding serves
serves_small text byte =
    number_short text _ byte (λ command cs more. number_short cs _ more
    (λ id line last. newline_short line (obeys command id) last (obeys_short command id)))
