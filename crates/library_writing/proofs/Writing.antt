-- What the writer accepts is a library, and every library is accepted: so `Back` and `Forth` speak of all that is written.
-- Assumes nothing.
use Prim.Native.Nat.{ℕ, zero, suc, ◌+◌, ◌≤◌}
use native.Mathlib.Omega.{arith}
use mathlib.Core.Path.{◌≡◌, refl, ap, ◌∙◌}
use mathlib.Core.Bool.{Bool, true, false}
use mathlib.Core.List.{List, [], ◌∷◌, ◌++◌}
use lib.ListN.{length, take, drop, length-append}
use lib.Seq.{take_at, drop_at, length-take-le}
use lib.Dec.{leb, ltb}
use borrow.Author.Tests.{leb-true, ltb-true, le-leb, lt-ltb}
use Rattle.theory.specs.Net.{Node, atom, arcs}
use Rattle.theory.specs.Descr.{Desc, desc, disjs}
use Rattle.theory.specs.Layout.{WellFormed, words, node_words, nodes_words, disjs_words}
use Rattle.theory.specs.LayoutOne.{Image}
use Rattle.blocks.specs.Block.{whichever}
use Rattle.blocks.proofs.Whole.{whichever_true}
use Rattle.library.specs.File.{LibraryEntry, Narrow, Sorted, Library, file, list_of}
use Rattle.library.specs.Read.{imaged}
use Rattle.library.specs.Contents.{words_in_order}
use Rattle.library_writing.specs.Write.{Written, split, listable, sound, need, write_answer}
use Rattle.std.specs.Prelude.{Ok, Err}
use Rattle.library_writing.specs.declared.write.WriteError.TheVariants.{NoRoom, Malformed, BadEntries}
use Rattle.library.proofs.Chunks.{narrow_take, narrow_drop}
use Rattle.library.proofs.Order.{imaged_image, image_imaged}

pub split_list : (l : List LibraryEntry) → split (list_of l) (words_in_order l) ≡ l
unfolding split list_of words_in_order
split_list [] = refl
split_list (e ∷ l) =
    let t = take_at e.1 (words_in_order l) (length e.1) refl in
    let d = drop_at e.1 (words_in_order l) (length e.1) refl in
    let r = split_list l in
    rw t (rw d (rw r))

list_listable : (c low : ℕ) (l : List LibraryEntry) → Sorted low l → length l ≤ c → listable c low (list_of l) ≡ true
unfolding listable list_of
list_listable c low [] s h = refl
list_listable zero low (e ∷ l) s h = absurd (omega arith)
list_listable (suc c) low (e ∷ l) s h =
    let p = s.0 in
    let a = le-leb low e.0 p.rises in
    let b = lt-ltb e.0 65536 p.short in
    let m = le-leb (length e.1) 1024 p.most in
    rw a (rw b (rw m (list_listable c (e.0 + 1) l s.1 (omega arith))))

list_sound : (low : ℕ) (l : List LibraryEntry) → Sorted low l → sound (list_of l) (words_in_order l) ≡ true
unfolding sound list_of words_in_order
list_sound low [] s = refl
list_sound low (e ∷ l) s =
    let t = take_at e.1 (words_in_order l) (length e.1) refl in
    let d = drop_at e.1 (words_in_order l) (length e.1) refl in
    let n = le-leb (length e.1) (length (e.1 ++ words_in_order l)) (let h = length-append e.1 (words_in_order l) in omega arith) in
    let i = image_imaged e.1 s.0.image in
    rw n (rw t (rw i (rw d (list_sound (e.0 + 1) l s.1))))

-- every library is written, as its file, where there is room
pub library_written : (l : List LibraryEntry) → Library l → (room : ℕ) → length (file l) ≤ room → write_answer (list_of l) (words_in_order l) room ≡ Ok (length (file l))
unfolding write_answer
library_written l library room h =
    let a = list_listable 60 0 l library.sorted library.few in
    let b = list_sound 0 l library.sorted in
    let s = split_list l in
    let r = le-leb (length (file l)) room h in
    rw a (rw b (rw s (rw r)))

-- ---- what is accepted
node_least : (v : Node) → 1 ≤ length (node_words v)
node_least (atom a) = omega arith
node_least (arcs l) = omega arith

-- "words (3 to 1,024)": no description has fewer
pub image_least : (ws : List ℕ) → Image ws → 3 ≤ length ws
image_least ws i = go i.0 i.1 i.2
  where
    go : (d : Desc) → WellFormed d 4 → ws ≡ words d → 3 ≤ length ws
    go (desc [] ds) w e = absurd (let z : 0 ≡ 1 = w.0 in omega arith)
    go (desc (v ∷ vs) ds) w e =
        let a = ap length e ∙ length-append (length (v ∷ vs) ∷ (node_words v ++ nodes_words vs)) (disjs ds ∷ disjs_words ds) in
        let b = length-append (node_words v) (nodes_words vs) in
        let c = node_least v in
        omega arith

accepted : (c low : ℕ) (es ws : List ℕ) → Narrow ws → listable c low es ≡ true → sound es ws ≡ true → Sorted low (split es ws) × (length (split es ws) ≤ c)
unfolding listable sound split
accepted c low [] ws s l g = (tt, omega arith)
accepted zero low (id ∷ []) ws s l g = absurd (let z : ◌≡◌ {A = ℕ} 0 1 = cc in omega arith)
accepted (suc c) low (id ∷ []) ws s l g = absurd (let z : ◌≡◌ {A = ℕ} 0 1 = cc in omega arith)
accepted zero low (id ∷ (n ∷ es)) ws s l g = absurd (let z : ◌≡◌ {A = ℕ} 0 1 = cc in omega arith)
accepted (suc c) low (id ∷ (n ∷ es)) ws s l g =
    let a = whichever_true (leb low id) (whichever (ltb id 65536) (whichever (leb n 1024) (listable c (id + 1) es) false) false) l in
    let b = whichever_true (ltb id 65536) (whichever (leb n 1024) (listable c (id + 1) es) false) a.1 in
    let m = whichever_true (leb n 1024) (listable c (id + 1) es) b.1 in
    let p = whichever_true (leb n (length ws)) (whichever (imaged (take n ws)) (sound es (drop n ws)) false) g in
    let q = whichever_true (imaged (take n ws)) (sound es (drop n ws)) p.1 in
    let size = length-take-le n ws (leb-true n (length ws) p.0) in
    let most = leb-true n 1024 m.0 in
    let image = imaged_image (take n ws) q.0 in
    let more = accepted c (id + 1) es (drop n ws) (narrow_drop n ws s) m.1 q.1 in
    let k = more.1 in (
      (
        record { rises = leb-true low id a.0; short = ltb-true id 65536 b.0; least = image_least (take n ws) image; most = omega arith; small = narrow_take n ws s; image = image },
        more.0,
      ),
      omega arith,
    )

-- what is written is the file of a library
pub written_library : (es ws : List ℕ) (room n : ℕ) → Narrow ws → write_answer es ws room ≡ Ok n → Library (split es ws)
unfolding write_answer
written_library es ws room n s e = go (listable 60 0 es) refl (sound es ws) refl e
  where
    go : (t : Bool) → listable 60 0 es ≡ t → (u : Bool) → sound es ws ≡ u
        → ◌≡◌ {A = Written} (whichever t (whichever u (whichever (leb (need es ws) room) (Ok (need es ws)) (Err (NoRoom (need es ws)))) (Err Malformed)) (Err BadEntries)) (Ok n) → Library (split es ws)
    go false t u g e = absurd (let z : ◌≡◌ {A = ℕ} 0 1 = cc in omega arith)
    go true t false g e = absurd (let z : ◌≡◌ {A = ℕ} 0 1 = cc in omega arith)
    go true t true g e = let a = accepted 60 0 es ws s t g in record { few = a.1; sorted = a.0 }
