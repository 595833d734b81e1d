-- Each number of the reader and of listing is given exactly when its rule holds and no earlier one.
-- Assumes nothing.
use Prim.Native.Nat.{ℕ, ◌*◌, ◌/◌, ◌%◌, ◌≤◌}
use native.Mathlib.Omega.{arith}
use mathlib.Core.Path.{◌≡◌, refl, sym, ap, ◌∙◌}
use mathlib.Core.Logic.{inl, inr, ⊎_elim}
use mathlib.Core.Bool.{Bool, true, false}
use mathlib.Core.Option as math
use mathlib.Core.List.{List}
use lib.ListN.{length}
use lib.Dec.{eqb, leb}
use borrow.Author.Tests.{eqb-true, eqb-false, leb-true, leb-false, le-leb, lt-leb}
use Rattle.theory.specs.Descr.{Desc}
use Rattle.theory.specs.LayoutOne.{Image}
use Rattle.theory.specs.Reading.{decode}
use Rattle.theory.proofs.Decode.{decode_iff}
use Rattle.blocks.specs.Block.{whichever, intact, block_of}
use Rattle.library.specs.Index.{room_of, used_by, index_good, Index, placed, start_of, index_of}
use Rattle.library.specs.Read.{Fetched, words_from, whole_blocks, has_read, imaged, fetch_answer_at, fetch_answer_found, sought, fetch_answer_by, fetch_answer}
use Rattle.library.specs.List.{Listed, list_answer_of, list_answer_by, list_answer}
use Rattle.library.specs.Rules.{Odd, count_in, Spoilt, Broken, GoodStart, FindsAt}
use Rattle.library.specs.Rules.{Why, odd, spoilt, broken, absent, damaged, malformed, short, fine}
use Rattle.library.specs.Rules.{WhyListed, odd_list, spoilt_list, broken_list, short_list, fine_list}
use Rattle.std.specs.Prelude.{Option, Some, None, Ok, Err}
use Rattle.library.specs.declared.index.Place.{Place}
use Rattle.library.specs.declared.index.IndexError.TheVariants.{BadLength, BadStart, BadIndex}
use Rattle.library.specs.declared.list.ListError.TheVariants as listing
use Rattle.library.specs.declared.read.ReadError.TheVariants as reading
use Rattle.library.proofs.Indices.{start_bad, start_over, start_broken, start_good, index_odd, index_empty, index_start}

false_true : false ≡ true → ⊥
false_true e = let z : ◌≡◌ {A = ℕ} 0 1 = cc in omega arith

true_not : (t : Bool) → ¬ (t ≡ true) → t ≡ false
true_not true h = absurd (h refl)
true_not false h = refl

-- ---- words are an image
pub imaged_image : (ws : List ℕ) → imaged ws ≡ true → Image ws
unfolding imaged
imaged_image ws e = go (decode ws) refl e
  where
    go : (o : math.Option Desc) → decode ws ≡ o → has_read o ≡ true → Image ws
    go math.none d e = absurd (false_true e)
    go (math.some x) d e = let p = (decode_iff ws x).0 d in (x, p.0, p.1)

pub image_imaged : (ws : List ℕ) → Image ws → imaged ws ≡ true
unfolding imaged
image_imaged ws i = ap has_read ((decode_iff ws i.0).1 (i.1, i.2))

-- ---- the start of a library
data WhyIndex (f : List ℕ) : Index → Type 0 where
  bad_length : Odd f → WhyIndex f (Err BadLength)
  bad_start : ¬ (Odd f) → Spoilt f → WhyIndex f (Err BadStart)
  bad_index : ¬ (Odd f) → ¬ (Spoilt f) → Broken f → WhyIndex f (Err BadIndex)
  good : GoodStart f → WhyIndex f (Ok (count_in f))

module _ (f : List ℕ) where
  start_why : ¬ (Odd f) → WhyIndex f (start_of (block_of 0 f) (length f / 512))
  unfolding start_of
  start_why even =
      go (intact (used_by (count_in f)) 0 (block_of 0 f)) refl (leb (count_in f) 60) refl
      (index_good (count_in f) 0 1 2 (block_of 0 f) (length f / 512)) refl
    where
      go : (s : Bool) → intact (used_by (count_in f)) 0 (block_of 0 f) ≡ s → (l : Bool) → leb (count_in f) 60 ≡ l
          → (g : Bool) → index_good (count_in f) 0 1 2 (block_of 0 f) (length f / 512) ≡ g
          → WhyIndex f (whichever s (whichever l (whichever g (Ok (count_in f)) (Err BadIndex)) (Err BadIndex)) (Err BadStart))
      go false s l m g h = bad_start even s
      go true s false m g h = bad_index even (λ z. false_true (sym z ∙ s)) (inl (leb-false (count_in f) 60 m))
      go true s true m false h = bad_index even (λ z. false_true (sym z ∙ s)) (inr h)
      go true s true m true h =
          good
          (record {
            even = even;
            sound = λ z. false_true (sym z ∙ s);
            kept = ⊎_elim (λ z. let y = leb-true (count_in f) 60 m in omega arith) (λ z. false_true (sym z ∙ h));
          })

  index_why : WhyIndex f (index_of f)
  unfolding index_of
  index_why = go (eqb (length f % 512) 0) refl (eqb (length f) 0) refl
    where
      go : (m : Bool) → eqb (length f % 512) 0 ≡ m → (z : Bool) → eqb (length f) 0 ≡ z
          → WhyIndex f (whichever m (whichever z (Err BadLength) (start_of (block_of 0 f) (length f / 512))) (Err BadLength))
      go false m z n = bad_length (inl (eqb-false (length f % 512) 0 m))
      go true m true n = bad_length (inr (eqb-true (length f) 0 n))
      go true m false n = start_why (⊎_elim (λ h. h (eqb-true (length f % 512) 0 m)) (eqb-false (length f) 0 n))

  even_is : ¬ (Odd f) → length f % 512 ≡ 0
  even_is h = go (eqb (length f % 512) 0) refl
    where
      go : (t : Bool) → eqb (length f % 512) 0 ≡ t → length f % 512 ≡ 0
      go true e = eqb-true (length f % 512) 0 e
      go false e = absurd (h (inl (eqb-false (length f % 512) 0 e)))

  opened : ¬ (Odd f) → (x : Index) → x ≡ start_of (block_of 0 f) (length f / 512) → x ≡ index_of f
  opened h x e = e ∙ index_start f (even_is h) (λ z. h (inr z))

  true_is : (t : Bool) → ¬ (t ≡ false) → t ≡ true
  true_is true h = refl
  true_is false h = absurd (h refl)

  pub few_is : ¬ (Broken f) → count_in f ≤ 60
  few_is h = go (leb (count_in f) 60) refl
    where
      go : (t : Bool) → leb (count_in f) 60 ≡ t → count_in f ≤ 60
      go true e = leb-true (count_in f) 60 e
      go false e = absurd (h (inl (leb-false (count_in f) 60 e)))

  broken_is : ¬ (Spoilt f) → Broken f → Err BadIndex ≡ start_of (block_of 0 f) (length f / 512)
  broken_is s (inl h) = start_over (block_of 0 f) (length f / 512) (true_is _ s) h
  broken_is s (inr g) = go (leb (count_in f) 60) refl
    where
      go : (t : Bool) → leb (count_in f) 60 ≡ t → Err BadIndex ≡ start_of (block_of 0 f) (length f / 512)
      go true e = start_broken (block_of 0 f) (length f / 512) (true_is _ s) (leb-true (count_in f) 60 e) g
      go false e = start_over (block_of 0 f) (length f / 512) (true_is _ s) (leb-false (count_in f) 60 e)

  pub good_is : GoodStart f → Ok (count_in f) ≡ index_of f
  good_is o = opened o.even (Ok (count_in f)) (start_good (block_of 0 f) (length f / 512) (true_is _ o.sound) (few_is o.kept) (true_is _ (λ z. o.kept (inr z))))

  index_because : (x : Index) → WhyIndex f x → x ≡ index_of f
  index_because _ (bad_length (inl h)) = index_odd f h
  index_because _ (bad_length (inr z)) = index_empty f (omega arith) z
  index_because _ (bad_start h s) = opened h (Err BadStart) (start_bad (block_of 0 f) (length f / 512) s)
  index_because _ (bad_index h s g) = opened h (Err BadIndex) (broken_is s g)
  index_because _ (good o) = good_is o

-- ---- the reader
module _ (f : List ℕ) (id room : ℕ) where
  found_why : (o : GoodStart f) (x : Option Place) → sought id (count_in f) f ≡ x → Why f id room (fetch_answer_found x f room)
  unfolding fetch_answer_found fetch_answer_at
  found_why o None e = absent o e
  found_why o (Some p) e =
      go p.first p.words e (whole_blocks (room_of p.words) p.first p.words f) refl
      (imaged (words_from p.first 0 p.words f)) refl (leb p.words room) refl
    where
      go : (k n : ℕ) → sought id (count_in f) f ≡ placed k n → (w : Bool) → whole_blocks (room_of n) k n f ≡ w → (i : Bool) → imaged (words_from k 0 n f) ≡ i → (l : Bool) → leb n room ≡ l
          → Why f id room (whichever w (whichever i (whichever l (Ok n) (Err (reading.NoRoom n))) (Err reading.Malformed)) (Err reading.Damaged))
      go k n e false w i j l m = damaged k n (record { begins = o; found = e }) w
      go k n e true w false j l m = malformed k n (record { begins = o; found = e }) w (λ x. false_true (sym j ∙ image_imaged (words_from k 0 n f) x))
      go k n e true w true j false m = short k n (record { begins = o; found = e }) w (imaged_image (words_from k 0 n f) j) (leb-false n room m)
      go k n e true w true j true m = fine k n (record { begins = o; found = e }) w (imaged_image (words_from k 0 n f) j) (leb-true n room m)

  by_index : (x : Index) → WhyIndex f x → Why f id room (fetch_answer_by x id f room)
  unfolding fetch_answer_by
  by_index _ (bad_length h) = odd h
  by_index _ (bad_start h s) = spoilt h s
  by_index _ (bad_index h s g) = broken h s g
  by_index _ (good o) = found_why o (sought id (count_in f) f) refl

  pub why : Why f id room (fetch_answer f id room)
  unfolding fetch_answer
  why = by_index (index_of f) (index_why f)

  searched_is : GoodStart f → (x : Option Place) → sought id (count_in f) f ≡ x → fetch_answer_found x f room ≡ fetch_answer f id room
  unfolding fetch_answer fetch_answer_by
  searched_is o x e = ap (λ (y : Option Place). fetch_answer_found y f room) (sym e) ∙ ap (λ (y : Index). fetch_answer_by y id f room) (good_is f o)

  found_is : (k n : ℕ) → FindsAt f id k n → fetch_answer_at k n f room ≡ fetch_answer f id room
  unfolding fetch_answer_found
  found_is k n h = searched_is h.begins (placed k n) h.found

  index_is : (x : Index) → x ≡ index_of f → fetch_answer_by x id f room ≡ fetch_answer f id room
  unfolding fetch_answer
  index_is x e = ap (λ (y : Index). fetch_answer_by y id f room) e

  pub because : (r : Fetched) → Why f id room r → r ≡ fetch_answer f id room
  unfolding fetch_answer_by fetch_answer_found fetch_answer_at
  because _ (odd h) = index_is (Err BadLength) (index_because f (Err BadLength) (bad_length h))
  because _ (spoilt h s) = index_is (Err BadStart) (index_because f (Err BadStart) (bad_start h s))
  because _ (broken h s g) = index_is (Err BadIndex) (index_because f (Err BadIndex) (bad_index h s g))
  because _ (absent o e) = searched_is o None e
  because _ (damaged k n h w) = rw w at (found_is k n h)
  because _ (malformed k n h w i) = rw (true_not (imaged (words_from k 0 n f)) (λ z. i (imaged_image (words_from k 0 n f) z))) at (rw w at (found_is k n h))
  because _ (short k n h w i l) = rw (lt-leb n room l) at (rw (image_imaged (words_from k 0 n f) i) at (rw w at (found_is k n h)))
  because _ (fine k n h w i l) = rw (le-leb n room l) at (rw (image_imaged (words_from k 0 n f) i) at (rw w at (found_is k n h)))

-- ---- listing
module _ (f : List ℕ) (room : ℕ) where
  list_by_index : (x : Index) → WhyIndex f x → WhyListed f room (list_answer_by x room)
  unfolding list_answer_by list_answer_of
  list_by_index _ (bad_length h) = odd_list h
  list_by_index _ (bad_start h s) = spoilt_list h s
  list_by_index _ (bad_index h s g) = broken_list h s g
  list_by_index _ (good o) = go (leb (2 * count_in f) room) refl
    where
      go : (t : Bool) → leb (2 * count_in f) room ≡ t
          → WhyListed f room (whichever t (Ok (2 * count_in f)) (Err (listing.NoRoom (2 * count_in f))))
      go true e = fine_list o (leb-true (2 * count_in f) room e)
      go false e = short_list o (leb-false (2 * count_in f) room e)

  pub list_why : WhyListed f room (list_answer f room)
  unfolding list_answer
  list_why = list_by_index (index_of f) (index_why f)

  list_is : (x : Index) → WhyIndex f x → list_answer_by x room ≡ list_answer f room
  unfolding list_answer
  list_is x w = ap (λ (y : Index). list_answer_by y room) (index_because f x w)

  pub list_because : (r : Listed) → WhyListed f room r → r ≡ list_answer f room
  unfolding list_answer_by list_answer_of
  list_because _ (odd_list h) = list_is (Err BadLength) (bad_length h)
  list_because _ (spoilt_list h s) = list_is (Err BadStart) (bad_start h s)
  list_because _ (broken_list h s g) = list_is (Err BadIndex) (bad_index h s g)
  list_because _ (short_list o l) = rw (lt-leb (2 * count_in f) room l) at (list_is (Ok (count_in f)) (good o))
  list_because _ (fine_list o l) = rw (le-leb (2 * count_in f) room l) at (list_is (Ok (count_in f)) (good o))
