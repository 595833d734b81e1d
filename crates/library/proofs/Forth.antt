-- What is written is listed and read back word for word.
-- Assumes nothing.
use Prim.Native.Nat.{ℕ, ◌+◌, ◌*◌, ◌-◌, ◌/◌, ◌≤◌, ◌<◌}
use native.Mathlib.Omega.{arith}
use mathlib.Core.Path.{◌≡◌, refl, sym, ap, ◌∙◌}
use mathlib.Core.Bool.{Bool, true, false}
use mathlib.Core.Option.{none, some}
use mathlib.Core.List.{List, [], ◌∷◌, ◌++◌, append_assoc, append-nil}
use lib.ListN.{length, get_or, replicate, length-append}
use lib.Seq.{take_at}
use lib.Dec.{eqb, leb}
use borrow.Author.Tests.{eq-eqb}
use Rattle.blocks.specs.Block.{whichever, pair, pair_at, intact, block, check, filled, block_of}
use Rattle.blocks.proofs.Whole.{pair_back, block_intact}
use Rattle.library.specs.Index.{room_of, used_by, entry_good, index_good, Index, placed, found, start_of, index_of}
use Rattle.library.specs.File.{LibraryEntry, ProperEntry, Sorted, Library, bodies, index_bytes, file, description_blocks, words_under, list_of}
use Rattle.library.specs.Read.{words_from, whole_blocks, imaged, fetch_answer_at, fetch_answer_found, fetch_answer_by, fetch_answer, sought, words_found, words_by, words_asked}
use Rattle.library.specs.Contents.{listing}
use Rattle.library.specs.List.{list_answer_of, list_answer_by, list_answer, list_by}
use Rattle.std.specs.Prelude.{Option, None, Ok, Err}
use Rattle.library.specs.declared.index.Place.{Place}
use Rattle.library.specs.declared.read.ReadError.TheVariants as error
use Rattle.library.proofs.Indices.{used_within, entry_last, start_good, index_start}
use Rattle.library.proofs.Sizes.{rooms, rooms_few, index_length, start_size, file_size}
use Rattle.library.proofs.Words.{behind}
use Rattle.library.proofs.Chunks.{blocks_read, description_length}
use Rattle.library.proofs.Order.{image_imaged}

-- ---- the index of what was written
unfoldable place_of : ℕ → ℕ → List LibraryEntry → Option Place
place_of id next [] = None
place_of id next (e ∷ l) = whichever (eqb e.0 id) (placed next (length e.1)) (place_of id (next + room_of (length e.1)) l)

-- the first entry's four numbers
record Four (b : List ℕ) (p id next words : ℕ) : Type 0 where
  id_is : pair_at b p ≡ id
  next_is : pair_at b (p + 2) ≡ next
  words_are : pair_at b (p + 4) ≡ words
  last_is : pair_at b (p + 6) ≡ 0

four : (pre rest : List ℕ) (p id next words : ℕ) → length pre ≡ p → id < 65536 → next < 65536 → words < 65536
    → Four (pre ++ ((pair id ++ (pair next ++ (pair words ++ pair 0))) ++ rest)) p id next words
four pre rest p id next words h i n w =
    let tail = (pair id ++ (pair next ++ (pair words ++ pair 0))) ++ rest in
    let b = pre ++ tail in
    let z : p + 0 ≡ p = omega arith in
    let a₀ = ap (λ (q : ℕ). get_or b q 0) (sym z) ∙ behind pre tail p 0 h in
    let a₁ = behind pre tail p 1 h in
    let a₂ = behind pre tail p 2 h in
    let a₃ = behind pre tail p 3 h in
    let a₄ = behind pre tail p 4 h in
    let a₅ = behind pre tail p 5 h in
    let a₆ = behind pre tail p 6 h in
    let a₇ = behind pre tail p 7 h in
    let s₂ : (p + 2) + 1 ≡ p + 3 = omega arith in
    let s₄ : (p + 4) + 1 ≡ p + 5 = omega arith in
    let s₆ : (p + 6) + 1 ≡ p + 7 = omega arith in
    record {
      id_is = rw a₀ (rw a₁ (pair_back id i));
      next_is = rw s₂ (rw a₂ (rw a₃ (pair_back next n)));
      words_are = rw s₄ (rw a₄ (rw a₅ (pair_back words w)));
      last_is = rw s₆ (rw a₆ (rw a₇));
    }

record Reads (total : ℕ) (l : List LibraryEntry) (low next p : ℕ) (b : List ℕ) : Type 0 where
  good : index_good (length l) low next p b total ≡ true
  finds : (id : ℕ) → found id (length l) p b ≡ place_of id next l
  lists : listing (length l) p b ≡ list_of l

module _ (total : ℕ) (low-total : total ≤ 65536) where
  reads_step : (e : LibraryEntry) (l : List LibraryEntry) (low next p : ℕ) (b : List ℕ) → ProperEntry low e → Four b p e.0 next (length e.1)
      → Reads total l (e.0 + 1) (next + room_of (length e.1)) (p + 8) b → Reads total (e ∷ l) low next p b
  unfolding index_good found listing list_of place_of
  reads_step e l low next p b proper n more =
      let i = n.id_is in
      let w = n.words_are in
      let x = n.next_is in
      let rises = proper.rises in
      let least = proper.least in
      let most = proper.most in
      let entry : entry_good low next p b ≡ true = sym (entry_last low next p b (omega arith) x (omega arith) (omega arith)) ∙ eq-eqb (pair_at b (p + 6)) 0 n.last_is in
      record {
        good = rw entry (rw i (rw w more.good));
        finds = λ id. rw i (rw x (rw w (rw (more.finds id))));
        lists = rw i (rw w (rw more.lists));
      }

  index_read : (l : List LibraryEntry) (low next p : ℕ) (pre post : List ℕ) → Sorted low l → length pre ≡ p → next + rooms l ≡ total → Reads total l low next p (pre ++ (index_bytes next l ++ post))
  unfolding index_bytes index_good found listing list_of place_of rooms
  index_read [] low next p pre post s h t = record { good = eq-eqb next total (omega arith); finds = λ id. refl; lists = refl }
  index_read (e ∷ l) low next p pre post s h t =
      let w = length e.1 in
      let r = room_of w in
      let four_pairs = pair e.0 ++ (pair next ++ (pair w ++ pair 0)) in
      let rest = index_bytes (next + r) l in
      let b = pre ++ ((four_pairs ++ rest) ++ post) in
      let e₁ : b ≡ pre ++ (four_pairs ++ (rest ++ post)) = ap (λ (x : List ℕ). pre ++ x) (append_assoc four_pairs rest post) in
      let e₂ : b ≡ (pre ++ four_pairs) ++ (rest ++ post) = e₁ ∙ sym (append_assoc pre four_pairs (rest ++ post)) in
      let proper = s.0 in
      let least = proper.least in
      let most = proper.most in
      let more = index_read l (e.0 + 1) (next + r) (p + 8) (pre ++ four_pairs) post s.1 (length-append pre four_pairs ∙ (omega arith)) (omega arith) in
      let n = four pre (rest ++ post) p e.0 next w h proper.short (omega arith) (omega arith) in
      rw e₁ (reads_step e l low next p (pre ++ (four_pairs ++ (rest ++ post))) proper n (rw (sym e₂ ∙ e₁) at more))

-- ---- the start of what was written
module _ (l : List LibraryEntry) (library : Library l) where
  start : List ℕ
  start = block (filled (pair (length l) ++ index_bytes 1 l)) 0

  used : length (pair (length l) ++ index_bytes 1 l) ≡ 2 + 8 * length l
  used = let h = index_length 1 l in omega arith

  fits : length (pair (length l) ++ index_bytes 1 l) ≤ 506
  fits = let h = used in let k = library.few in omega arith

  total : ℕ
  total = 1 + rooms l

  total_low : total ≤ 541
  unfolding total
  total_low = let h = rooms_few 0 l library.sorted in let k = library.few in omega arith

  some_total : total ≡ 0 → ⊥
  unfolding total
  some_total e = omega arith

  start_length : length start ≡ 512
  unfolding start
  start_length = start_size l library.few

  post : List ℕ
  post = replicate (506 - length (pair (length l) ++ index_bytes 1 l)) 0 ++ (pair 0 ++ check (filled (pair (length l) ++ index_bytes 1 l) ++ pair 0))

  start_is : start ≡ pair (length l) ++ (index_bytes 1 l ++ post)
  unfolding start block filled post
  start_is =
      let c = pair (length l) ++ index_bytes 1 l in
      let z = replicate {A = ℕ} (506 - length c) 0 in
      let k = check ((c ++ z) ++ pair 0) in
      append_assoc (c ++ z) (pair 0) k ∙ append_assoc c z (pair 0 ++ k) ∙ append_assoc (pair (length l)) (index_bytes 1 l) (z ++ (pair 0 ++ k))

  starts : Reads total l 0 1 2 start
  unfolding total
  starts = rw start_is (index_read total (let h = total_low in omega arith) l 0 1 2 (pair (length l)) post library.sorted refl refl)

  first_is : block_of 0 (file l) ≡ start
  unfolding file start
  first_is = take_at start (bodies 1 l) 512 start_length

  file_length : length (file l) ≡ 512 * total
  unfolding total
  file_length = file_size l library.few

  counts : pair_at start 0 ≡ length l
  counts =
      let tail = index_bytes 1 l ++ post in
      let few = library.few in
      ap (λ (b : List ℕ). pair_at b 0) start_is ∙ pair_back (length l) (omega arith)

  whole : intact (used_by (pair_at start 0)) 0 start ≡ true
  unfolding start
  whole =
      let c = pair (length l) ++ index_bytes 1 l in
      let u : used_by (pair_at start 0) ≡ length c = ap used_by counts ∙ sym (used_within (length l) library.few) ∙ sym used in
      ap (λ (n : ℕ). intact n 0 start) u ∙ block_intact c 0 fits (omega arith)

  pub index_written : index_of (file l) ≡ Ok (length l)
  index_written =
      let n = file_length in
      let t = total_low in
      let few = library.few in
      let c = counts in
      let d : length (file l) / 512 ≡ total = omega arith in
      sym (index_start (file l) (omega arith) (λ z. some_total (omega arith)))
      ∙ ap (λ (b : List ℕ). start_of b (length (file l) / 512)) first_is ∙ ap (start_of start) d
      ∙ sym (start_good start total whole (omega arith) (ap (λ (m : ℕ). index_good m 0 1 2 start total) counts ∙ starts.good)) ∙ ap (λ (n : ℕ). Ok n) counts

  -- listing what was written gives each entry's identifier and number of words, or tells the need
  pub list_written : (room : ℕ) → (list_answer (file l) room ≡ list_answer_of (length l) room) × (list_by (index_of (file l)) (file l) ≡ list_of l)
  unfolding list_answer list_answer_by list_by
  list_written room = (
    ap (λ (x : Index). list_answer_by x room) index_written,
    ap (λ (x : Index). list_by x (file l)) index_written ∙ ap (listing (length l) 2) first_is ∙ starts.lists,
  )

-- ---- the descriptions of what was written
-- where the words of an identifier stand in f
record Held (id next : ℕ) (l : List LibraryEntry) (ws f : List ℕ) : Type 0 where
  at : ℕ
  place : place_of id next l ≡ placed at (length ws)
  intacts : whole_blocks (room_of (length ws)) at (length ws) f ≡ true
  reads : words_from at 0 (length ws) f ≡ ws
  judged : imaged ws ≡ true

some_is : {a b : List ℕ} → some a ≡ some b → a ≡ b
some_is e = cc

held_first : (id next : ℕ) (e : LibraryEntry) (l : List LibraryEntry) (low : ℕ) (pre post ws : List ℕ) → ProperEntry low e → length pre ≡ 512 * next → next + rooms (e ∷ l) ≤ 65536 → eqb e.0 id ≡ true → e.1 ≡ ws
    → Held id next (e ∷ l) ws (pre ++ (bodies next (e ∷ l) ++ post))
unfolding place_of bodies rooms
held_first id next e l low pre post ws proper h t q g =
    let r = room_of (length e.1) in
    let d = description_blocks r next e.1 in
    let more = bodies (next + r) l in
    let same : pre ++ ((d ++ more) ++ post) ≡ pre ++ (d ++ (more ++ post)) = ap (λ (x : List ℕ). pre ++ x) (append_assoc d more post) in
    let b = blocks_read r next e.1 pre (more ++ post) refl proper.small h (omega arith) in
    rw same (rw (← g) (record { at = next; place = rw q; intacts = b.0; reads = b.1; judged = image_imaged e.1 proper.image }))

held_later : (id next : ℕ) (e : LibraryEntry) (l : List LibraryEntry) (pre post ws : List ℕ) → eqb e.0 id ≡ false
    → Held id (next + room_of (length e.1)) l ws ((pre ++ description_blocks (room_of (length e.1)) next e.1) ++ (bodies (next + room_of (length e.1)) l ++ post))
    → Held id next (e ∷ l) ws (pre ++ (bodies next (e ∷ l) ++ post))
unfolding place_of bodies
held_later id next e l pre post ws q m =
    let r = room_of (length e.1) in
    let d = description_blocks r next e.1 in
    let more = bodies (next + r) l in
    let same : pre ++ ((d ++ more) ++ post) ≡ (pre ++ d) ++ (more ++ post) = ap (λ (x : List ℕ). pre ++ x) (append_assoc d more post) ∙ sym (append_assoc pre d (more ++ post)) in
    rw same (record { at = m.at; place = rw q m.place; intacts = m.intacts; reads = m.reads; judged = m.judged })

held : (id next : ℕ) (l : List LibraryEntry) (low : ℕ) (pre post ws : List ℕ) → Sorted low l → length pre ≡ 512 * next → next + rooms l ≤ 65536 → words_under id l ≡ some ws
    → Held id next l ws (pre ++ (bodies next l ++ post))
unfolding words_under rooms
held id next [] low pre post ws s h t g = absurd (let z : ◌≡◌ {A = ℕ} 0 1 = cc in omega arith)
held id next (e ∷ l) low pre post ws s h t g = go (eqb e.0 id) refl g
    (λ g. held id (next + room_of (length e.1)) l (e.0 + 1) (pre ++ description_blocks (room_of (length e.1)) next e.1) post ws s.1
    (length-append pre (description_blocks (room_of (length e.1)) next e.1) ∙ (let k = description_length (room_of (length e.1)) next e.1 in omega arith)) (omega arith) g)
  where
    go : (q : Bool) → eqb e.0 id ≡ q → whichever q (some e.1) (words_under id l) ≡ some ws
        → (words_under id l ≡ some ws → Held id (next + room_of (length e.1)) l ws ((pre ++ description_blocks (room_of (length e.1)) next e.1) ++ (bodies (next + room_of (length e.1)) l ++ post)))
        → Held id next (e ∷ l) ws (pre ++ (bodies next (e ∷ l) ++ post))
    go true q g rest = held_first id next e l low pre post ws s.0 h t q (some_is g)
    go false q g rest = held_later id next e l pre post ws q (rest g)

no_place : (id next : ℕ) (l : List LibraryEntry) → words_under id l ≡ none → place_of id next l ≡ None
unfolding words_under place_of
no_place id next [] g = refl
no_place id next (e ∷ l) g = go (eqb e.0 id) g (no_place id (next + room_of (length e.1)) l)
  where
    go : (q : Bool) → whichever q (some e.1) (words_under id l) ≡ none → (words_under id l ≡ none → place_of id (next + room_of (length e.1)) l ≡ None)
        → whichever q (placed next (length e.1)) (place_of id (next + room_of (length e.1)) l) ≡ None
    go true g rest = absurd (let z : ◌≡◌ {A = ℕ} 0 1 = cc in omega arith)
    go false g rest = rest g

-- ---- "Writer and reader both, each undoing the other"
module _ (l : List LibraryEntry) (library : Library l) (id : ℕ) where
  seeks : sought id (length l) (file l) ≡ place_of id 1 l
  seeks = ap (found id (length l) 2) (first_is l library) ∙ (starts l library).finds id

  asks : (room : ℕ) → fetch_answer (file l) id room ≡ fetch_answer_found (place_of id 1 l) (file l) room
  unfolding fetch_answer fetch_answer_by
  asks room = ap (λ (x : Index). fetch_answer_by x id (file l) room) (index_written l library) ∙ ap (λ (x : Option Place). fetch_answer_found x (file l) room) seeks

  holds : (ws : List ℕ) → words_under id l ≡ some ws → Held id 1 l ws (file l)
  unfolding file start total
  holds ws g =
      let t = total_low l library in
      let h = held id 1 l 0 (start l library) [] ws library.sorted (start_length l library) (omega arith) g in
      rw (append-nil (bodies 1 l)) at h

  -- an identifier of the library is read back word for word, or its need is told
  pub read_written : (room : ℕ) (ws : List ℕ) → words_under id l ≡ some ws
      → (fetch_answer (file l) id room ≡ whichever (leb (length ws) room) (Ok (length ws)) (Err (error.NoRoom (length ws)))) × (words_asked (file l) id ≡ ws)
  unfolding fetch_answer_found fetch_answer_at words_asked words_by words_found
  read_written room ws g =
      let h = holds ws g in
      let w = h.intacts in
      let r = h.reads in
      let j = h.judged in (
        asks room ∙ ap (λ (x : Option Place). fetch_answer_found x (file l) room) h.place ∙ rw w (rw r (rw j)),
        ap (λ (x : Index). words_by x id (file l)) (index_written l library) ∙ ap (λ (x : Option Place). words_found x (file l)) (seeks ∙ h.place) ∙ r,
      )

  -- and any other is refused by 43
  pub read_absent : (room : ℕ) → words_under id l ≡ none → fetch_answer (file l) id room ≡ Err error.Absent
  unfolding fetch_answer_found
  read_absent room g = asks room ∙ ap (λ (x : Option Place). fetch_answer_found x (file l) room) (no_place id 1 l g)
