-- "Writer and reader both, each undoing the other", of what the contracts say: what was written is listed and read back word for
-- word, and what was listed and read is written as the file that it came from.
-- Assumes nothing.
use Prim.Native.Nat.{ℕ, ◌*◌, ◌/◌, ◌≤◌}
use native.Mathlib.Omega.{arith}
use mathlib.Core.Path.{◌≡◌, refl, sym, ap, ◌∙◌}
use mathlib.Core.Bool.{Bool, true, false}
use mathlib.Core.Option.{none, some}
use mathlib.Core.List.{List, [], ◌∷◌, ◌++◌}
use lib.ListN.{length, take, drop}
use lib.Seq.{take_at}
use lib.Dec.{leb}
use borrow.Author.Tests.{le-leb}
use Rattle.blocks.specs.Block.{whichever}
use Rattle.blocks.specs.Byte as byte
use Rattle.library.specs.Index.{entry_limit, index_of, placed}
use Rattle.library.specs.File.{Narrow, Library, file, list_of, words_under}
use Rattle.library.specs.Read.{Fetched, Fetches, area_after, words_asked, fetch_answer, sought}
use Rattle.library.specs.List.{Listed, ListsLibrary, list_answer_of, list_answer, list_by, listed_after}
use Rattle.library.specs.Contents.{contents, words_in_order, words_listed}
use Rattle.library.specs.Told.{fetch_number}
use Rattle.library.specs.declared.read.ReadError.TheVariants as reading
use Rattle.library.proofs.Forth.{list_written, read_written, read_absent}
use Rattle.library.proofs.Back.{written_read}
use Rattle.library.proofs.Holds.{list_contents, words_contents, contents_library}
use Rattle.library_writing.specs.Write.{Written, split, listable, sound, need, write_answer, written_after, InPairs, WritesLibrary}
use Rattle.std.specs.Prelude.{Ok, Err}
use Rattle.library_writing.specs.declared.write.WriteError.TheVariants.{NoRoom, Malformed, BadEntries}
use Rattle.library_writing.proofs.Asked.{listable_pairs}
use Rattle.library_writing.proofs.Answers.{sound-after, split-length}
use Rattle.library_writing.proofs.Writing.{library_written, split_list, written_library}

-- ---- forth
record Accepts (es ws : List ℕ) (room n : ℕ) : Type 0 where
  listed : listable entry_limit 0 es ≡ true
  good : sound es ws ≡ true
  size : n ≡ need es ws

bytes_are : {m n : ℕ} → ◌≡◌ {A = Written} (Ok m) (Ok n) → m ≡ n
bytes_are e = cc

accepts : (es ws : List ℕ) (room n : ℕ) → Ok n ≡ write_answer es ws room → Accepts es ws room n
unfolding write_answer
accepts es ws room n e = go (listable entry_limit 0 es) refl (sound es ws) refl (leb (need es ws) room) e
  where
    go : (l : Bool) → listable entry_limit 0 es ≡ l → (s : Bool) → sound es ws ≡ s → (m : Bool)
        → ◌≡◌ {A = Written} (Ok n) (whichever l (whichever s (whichever m (Ok (need es ws)) (Err (NoRoom (need es ws)))) (Err Malformed)) (Err BadEntries))
        → Accepts es ws room n
    go false l s t m e = absurd (let z : ◌≡◌ {A = ℕ} 0 1 = cc in omega arith)
    go true l false t m e = absurd (let z : ◌≡◌ {A = ℕ} 0 1 = cc in omega arith)
    go true l true t false e = absurd (let z : ◌≡◌ {A = ℕ} 0 1 = cc in omega arith)
    go true l true t true e = record { listed = l; good = t; size = bytes_are e }

list_back_of : (es ws : List ℕ) → InPairs es → sound es ws ≡ true → list_of (split es ws) ≡ es
unfolding split list_of
list_back_of [] ws p s = refl
list_back_of (id ∷ []) ws p s = absurd p
list_back_of (id ∷ (n ∷ es)) ws p s =
    let a = sound-after id n es ws s in
    let size = a.0 in
    let more = list_back_of es (drop n ws) p.1 a.1 in
    rw size (rw more)

even_length : (es : List ℕ) → InPairs es → 2 * (length es / 2) ≡ length es
even_length [] p = refl
even_length (id ∷ []) p = absurd p
even_length (id ∷ (n ∷ es)) p = let h = even_length es p.1 in omega arith

-- the entries es over the words ws were written to the first n bytes
module _ (es ws area area' : List ℕ) (n : ℕ) (narrow : Narrow ws) (writes : WritesLibrary es ws area area' (Ok n)) where
  taken : Accepts es ws (length area) n
  taken = accepts es ws (length area) n writes.answer

  library : Library (split es ws)
  library = written_library es ws (length area) n narrow (sym writes.answer)

  pub written_file : take n area' ≡ file (split es ws)
  written_file = ap (take n) writes.leaves ∙ take_at (file (split es ws)) (drop n area) n (sym taken.size)

  -- listing them gives the entries
  pub list_back : (a a' : List ℕ) (r : Listed) → ListsLibrary (take n area') a a' r → length es ≤ length a
      → (r ≡ Ok (length es)) × (a' ≡ es ++ drop (length es) a)
  unfolding list_answer_of
  list_back a a' r lists h =
      let l = split es ws in
      let pairs = (listable_pairs entry_limit 0 es taken.listed).0 in
      let size : 2 * length l ≡ length es = ap (λ (m : ℕ). 2 * m) (split-length es ws pairs) ∙ even_length es pairs in
      let both = list_written l library (length a) in
      let room = le-leb (2 * length l) (length a) (omega arith) in
      let answer : r ≡ Ok (length es) =
      lists.answer ∙ ap (λ (f : List ℕ). list_answer f (length a)) written_file ∙ both.0 ∙ rw room (ap Ok size) in
      let words : list_by (index_of (take n area')) (take n area') ≡ es =
      ap (λ (f : List ℕ). list_by (index_of f) f) written_file ∙ both.1
      ∙ list_back_of es ws pairs taken.good in (
        answer,
        lists.leaves ∙ ap (λ (t : Listed). listed_after t (list_by (index_of (take n area')) (take n area')) a) answer
            ∙ ap (λ (v : List ℕ). v ++ drop (length es) a) words,
      )

  -- reading an identifier of them gives its words
  pub read_back : (id : ℕ) (vs a a' : List ℕ) (r : Fetched) → words_under id (split es ws) ≡ some vs
      → Fetches (take n area') id a a' r → length vs ≤ length a
      → (r ≡ Ok (length vs)) × (a' ≡ vs ++ drop (length vs) a)
  read_back id vs a a' r under fetches h =
      let both = read_written (split es ws) library id (length a) vs under in
      let room = le-leb (length vs) (length a) h in
      let answer : r ≡ Ok (length vs) =
      fetches.answer ∙ ap (λ (f : List ℕ). fetch_answer f id (length a)) written_file ∙ both.0 ∙ rw room in
      let words : words_asked (take n area') id ≡ vs = ap (λ (f : List ℕ). words_asked f id) written_file ∙ both.1 in (
        answer,
        fetches.leaves ∙ ap (λ (t : Fetched). area_after t (words_asked (take n area') id) a) answer
            ∙ ap (λ (v : List ℕ). v ++ drop (length vs) a) words,
      )

  -- and any other identifier is refused by 43
  pub read_other : (id : ℕ) (a a' : List ℕ) (r : Fetched) → words_under id (split es ws) ≡ none → Fetches (take n area') id a a' r
      → (r ≡ Err reading.Absent) × (a' ≡ a)
  read_other id a a' r under fetches =
      let answer : r ≡ Err reading.Absent =
      fetches.answer ∙ ap (λ (f : List ℕ). fetch_answer f id (length a)) written_file
      ∙ read_absent (split es ws) library id (length a) under in
      (answer, fetches.leaves ∙ ap (λ (t : Fetched). area_after t (words_asked (take n area') id) a) answer)

-- ---- back
-- the list of a file all of whose entries are read with 0, over what was read of each, is written as that file
module _ (f : List ℕ) (count : ℕ) (good : index_of f ≡ Ok count) where
  pub write_back : byte.Bytes f → ((id k n : ℕ) → sought id count f ≡ placed k n → fetch_number (fetch_answer f id n) ≡ 0)
      → (area area' : List ℕ) (r : Written)
      → WritesLibrary (list_by (index_of f) f) (words_listed (list_by (index_of f) f) f) area area' r → length f ≤ length area
      → (r ≡ Ok (length f)) × (area' ≡ f ++ drop (length f) area)
  write_back bytes reads area area' r writes h =
      let l = contents count f in
      let es = list_by (index_of f) f in
      let ws = words_listed es f in
      let held = contents_library f count good bytes reads in
      let same : file l ≡ f = written_read f count good bytes reads in
      let es_are : es ≡ list_of l = list_contents f count good in
      let ws_are : ws ≡ words_in_order l = ap (λ (v : List ℕ). words_listed v f) es_are ∙ words_contents f count good in
      let size : length (file l) ≡ length f = ap length same in
      let answer : r ≡ Ok (length f) =
      writes.answer ∙ ap (λ (v : List ℕ). write_answer v ws (length area)) es_are
      ∙ ap (λ (v : List ℕ). write_answer (list_of l) v (length area)) ws_are
      ∙ library_written l held (length area) (omega arith) ∙ ap (λ (m : ℕ). Ok m) size in
      let made : file (split es ws) ≡ f =
      ap (λ (v : List ℕ). file (split v ws)) es_are ∙ ap (λ (v : List ℕ). file (split (list_of l) v)) ws_are
      ∙ ap file (split_list l) ∙ same in (
        answer,
        writes.leaves ∙ ap (λ (t : Written). written_after t (file (split es ws)) area) answer
            ∙ ap (λ (v : List ℕ). v ++ drop (length f) area) made,
      )
