-- One outcome for each input of the reader and of listing, and how large what is told may be.
-- Assumes nothing.
use Prim.Native.Nat.{ℕ, ◌≤◌, ◌*◌}
use native.Mathlib.Omega.{arith}
use mathlib.Core.Path.{◌≡◌, refl, sym, ap, subst, ◌∙◌}
use mathlib.Core.List.{List}
use lib.ListN.{length}
use Rattle.theory.specs.Limits.{input_limit}
use Rattle.library.specs.Read.{Fetched, Fetches, words_asked, area_after}
use Rattle.library.specs.List.{Listed, ListsLibrary, list_by, listed_after}
use Rattle.library.specs.Index.{entry_limit, index_of}
use Rattle.library.specs.Rules.{count_in, FindsAt}
use Rattle.library.specs.Rules.{Why, odd, spoilt, broken, absent, damaged, malformed, short, fine}
use Rattle.library.specs.Rules.{WhyListed, odd_list, spoilt_list, broken_list, short_list, fine_list}
use Rattle.library.specs.Told.{fetch_number, fetch_extent, list_number, list_extent, FetchTold, ListTold}
use Rattle.std.specs.Prelude.{Ok, Err}
use Rattle.library.proofs.Good.{found_placed}
use Rattle.library.proofs.Order.{good_is, few_is, why, list_why}

-- the contract of the reader allows one answer, and one area
module _ (f : List ℕ) (id : ℕ) (area : List ℕ) where
  pub one_fetch : (r s : Fetched) (x y : List ℕ) → Fetches f id area x r → Fetches f id area y s → (r ≡ s) × (x ≡ y)
  one_fetch r s x y p q =
      let same : r ≡ s = p.answer ∙ sym q.answer in
      (same, p.leaves ∙ ap (λ (t : Fetched). area_after t (words_asked f id) area) same ∙ sym q.leaves)

  pub one_fetch_told : (m n i j : ℕ) (x y : List ℕ) → FetchTold f id area m i x → FetchTold f id area n j y
      → (m ≡ n) × (i ≡ j) × (x ≡ y)
  one_fetch_told m n i j x y p q =
      let same = one_fetch p.answer q.answer x y p.fetches q.fetches in (
        p.the_number ∙ ap fetch_number same.0 ∙ sym q.the_number,
        p.the_extent ∙ ap fetch_extent same.0 ∙ sym q.the_extent,
        same.1,
      )

-- and so does that of listing
module _ (f area : List ℕ) where
  pub one_list : (r s : Listed) (x y : List ℕ) → ListsLibrary f area x r → ListsLibrary f area y s → (r ≡ s) × (x ≡ y)
  one_list r s x y p q =
      let same : r ≡ s = p.answer ∙ sym q.answer in
      (same, p.leaves ∙ ap (λ (t : Listed). listed_after t (list_by (index_of f) f) area) same ∙ sym q.leaves)

  pub one_list_told : (m n i j : ℕ) (x y : List ℕ) → ListTold f area m i x → ListTold f area n j y → (m ≡ n) × (i ≡ j) × (x ≡ y)
  one_list_told m n i j x y p q =
      let same = one_list p.answer q.answer x y p.lists q.lists in (
        p.the_number ∙ ap list_number same.0 ∙ sym q.the_number,
        p.the_extent ∙ ap list_extent same.0 ∙ sym q.the_extent,
        same.1,
      )

-- ---- "A refusal writes nothing"
pub fetch_refusal : (f : List ℕ) (id : ℕ) (area x : List ℕ) (r : Fetched) → Fetches f id area x r → ¬ (fetch_number r ≡ 0) → x ≡ area
fetch_refusal f id area x (Ok n) p h = absurd (h refl)
fetch_refusal f id area x (Err e) p h = p.leaves

pub list_refusal : (f area x : List ℕ) (r : Listed) → ListsLibrary f area x r → ¬ (list_number r ≡ 0) → x ≡ area
list_refusal f area x (Ok n) p h = absurd (h refl)
list_refusal f area x (Err e) p h = p.leaves

-- ---- what is told is small
found_few : (f : List ℕ) (id k n : ℕ) → FindsAt f id k n → n ≤ input_limit
found_few f id k n h = (found_placed f id (count_in f) k n (good_is f h.begins) (sym h.found)).few

pub fetch_small : (f : List ℕ) (id : ℕ) (area area' : List ℕ) (r : Fetched) → Fetches f id area area' r → fetch_extent r ≤ input_limit
fetch_small f id area area' r p =
    go r (subst (λ (s : Fetched). Why f id (length area) s) (sym p.answer) (why f id (length area)))
  where
    go : (r : Fetched) → Why f id (length area) r → fetch_extent r ≤ input_limit
    go _ (odd h) = omega arith
    go _ (spoilt h s) = omega arith
    go _ (broken h s g) = omega arith
    go _ (absent o e) = omega arith
    go _ (damaged k n h w) = omega arith
    go _ (malformed k n h w i) = omega arith
    go _ (short k n h w i l) = found_few f id k n h
    go _ (fine k n h w i l) = found_few f id k n h

pub list_small : (f area area' : List ℕ) (r : Listed) → ListsLibrary f area area' r → list_extent r ≤ 2 * entry_limit
list_small f area area' r p =
    go r (subst (λ (s : Listed). WhyListed f (length area) s) (sym p.answer) (list_why f (length area)))
  where
    go : (r : Listed) → WhyListed f (length area) r → list_extent r ≤ 2 * entry_limit
    go _ (odd_list h) = omega arith
    go _ (spoilt_list h s) = omega arith
    go _ (broken_list h s g) = omega arith
    go _ (short_list o l) = let h = few_is f o.kept in omega arith
    go _ (fine_list o l) = let h = few_is f o.kept in omega arith
