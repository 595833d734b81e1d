-- Laws of reading a description, in the form in which the functions' returns ask them.
-- Assumes nothing.
use Prim.Native.Nat.{ℕ, zero, suc, ◌+◌, ◌*◌, ◌-◌, ◌/◌, ◌%◌, ◌≤◌, ◌<◌}
use native.Mathlib.Omega.{arith}
use native.Mathlib.Numerals.{sub-one, add-one}
use native.Mathlib.Nat.{not-suc-le-zero}
use mathlib.Core.Path.{◌≡◌, refl, sym, ap, ◌∙◌}
use mathlib.Core.Bool.{Bool, true, false, not}
use mathlib.Core.List.{List, [], ◌∷◌, ◌++◌, append_assoc}
use lib.ListN.{length, get_or, take, drop, set}
use lib.Seq.{set_at, drop-cons, length-take-le}
use borrow.Author.Tests.{le-leb, lt-leb}
use Rattle.blocks.specs.Block.{intact, block_of}
use Rattle.layout.specs.Judged.{Judged}
use Rattle.layout.proofs.Whole.{accepted_decodes, refused_decodes}
use Rattle.library.specs.Index.{first_part, room_of, index_of}
use Rattle.library.specs.Read.{Fetched, quad_at, words_from, whole_blocks, has_read, imaged, fetch_answer_at, sought, fetch_answer_by, fetch_answer, words_by, words_asked, FetchesAt, FetchesFound, Fetches}
use Rattle.std.specs.Prelude.{Ok, Err}
use Rattle.library.specs.declared.index.IndexError.{IndexError}
use Rattle.library.specs.declared.read.ReadError.TheVariants as error

pub not_stop : (t : Bool) → not t ≡ true → t ≡ false
not_stop true e = absurd (let z : ◌≡◌ {A = ℕ} 0 1 = cc in omega arith)
not_stop false e = refl

pub not_go : (t : Bool) → not t ≡ false → t ≡ true
not_go true e = refl
not_go false e = absurd (let z : ◌≡◌ {A = ℕ} 0 1 = cc in omega arith)

module _ (f : List ℕ) where
  pub whole_stop : (c k n : ℕ) → 0 < c → intact (4 * first_part n) k (block_of k f) ≡ false → false ≡ whole_blocks c k n f
  unfolding whole_blocks
  whole_stop zero k n h e = absurd (not-suc-le-zero h)
  whole_stop (suc c) k n h e = rw e

  pub whole_step : (c k n : ℕ) → 0 < c → intact (4 * first_part n) k (block_of k f) ≡ true → whole_blocks c k n f ≡ whole_blocks (c - 1) (k + 1) (n - first_part n) f
  unfolding whole_blocks
  whole_step zero k n h e = absurd (not-suc-le-zero h)
  whole_step (suc c) k n h e = rw (e, sub-one)

  pub whole_done : (c k n : ℕ) → c ≤ 0 → true ≡ whole_blocks c k n f
  unfolding whole_blocks
  whole_done zero k n h = refl
  whole_done (suc c) k n h = absurd (not-suc-le-zero h)

  pub words_length : (n k i : ℕ) → length (words_from k i n f) ≡ n
  unfolding words_from
  words_length zero k i = refl
  words_length (suc n) k i = ap suc (words_length n k (i + 1))

  -- one word more, at the end
  pub words_more : (n k i : ℕ) → words_from k i (n + 1) f ≡ words_from k i n f ++ (quad_at f (512 * (k + (i + n) / 126) + 4 * ((i + n) % 126)) ∷ [])
  unfolding words_from
  words_more zero k i = let e : i + 0 ≡ i = omega arith in rw e
  words_more (suc n) k i =
      let e : suc n + 1 ≡ suc (n + 1) = omega arith in
      let g : (i + 1) + n ≡ i + suc n = omega arith in
      let h = words_more n k (i + 1) in
      rw e (rw h (rw g))

  pub fill_none : (k : ℕ) (dst : List ℕ) → dst ≡ words_from k 0 0 f ++ drop 0 dst
  unfolding words_from
  fill_none k dst = refl

  pub fill_step : (k i : ℕ) (dst dst₀ : List ℕ) → i < length dst₀ → dst ≡ words_from k 0 i f ++ drop i dst₀
      → set dst i (quad_at f (512 * (k + i / 126) + 4 * (i % 126))) ≡ words_from k 0 (i + 1) f ++ drop (i + 1) dst₀
  fill_step k i dst dst₀ h e =
      let x = quad_at f (512 * (k + i / 126) + 4 * (i % 126)) in
      let g : 0 + i ≡ i = omega arith in
      let more : words_from k 0 (i + 1) f ≡ words_from k 0 i f ++ (x ∷ []) = words_more i k 0 ∙ rw g in
      let rest : drop i dst₀ ≡ get_or dst₀ i 0 ∷ drop (i + 1) dst₀ = drop-cons dst₀ i 0 h ∙ rw (add-one i) in
      ap (λ (l : List ℕ). set l i x) (e ∙ ap (λ (l : List ℕ). words_from k 0 i f ++ l) rest) ∙ set_at (words_from k 0 i f) (get_or dst₀ i 0) (drop (i + 1) dst₀) x i (words_length i k 0)
      ∙ sym (append_assoc (words_from k 0 i f) (x ∷ []) (drop (i + 1) dst₀)) ∙ rw more

module _ (ws : List ℕ) (j : Bool) (judged : Judged ws j) where
  pub imaged_yes : j ≡ true → imaged ws ≡ true
  unfolding imaged
  imaged_yes e = let d = (accepted_decodes ws j judged).0 e in ap has_read d.1

  pub imaged_not : j ≡ false → imaged ws ≡ false
  unfolding imaged
  imaged_not e = ap has_read ((refused_decodes ws j judged).0 (λ a. let z : ◌≡◌ {A = ℕ} 0 1 = cc in omega arith))

module _ (k n : ℕ) (f area area' : List ℕ) where
  module _ (whole : whole_blocks (room_of n) k n f ≡ true) where
    pub fetches_malformed : imaged (words_from k 0 n f) ≡ false → area' ≡ area → FetchesAt k n f area area' (Err error.Malformed)
    unfolding fetch_answer_at
    fetches_malformed e a = record { answer = rw whole (rw e); leaves = a }

    pub fetches_short : imaged (words_from k 0 n f) ≡ true → length area < n → area' ≡ area → FetchesAt k n f area area' (Err (error.NoRoom n))
    unfolding fetch_answer_at
    fetches_short e h a = record { answer = rw whole (rw e (rw (lt-leb _ _ h))); leaves = a }

    pub fetches_words : imaged (words_from k 0 n f) ≡ true → n ≤ length area → area' ≡ words_from k 0 n f ++ drop n area → FetchesAt k n f area area' (Ok n)
    unfolding fetch_answer_at
    fetches_words e h a = record { answer = rw whole (rw e (rw (le-leb _ _ h))); leaves = a }

-- the words that were copied to the front of a space, and judged there
module _ (f dst space : List ℕ) (k n : ℕ) (long : length space ≡ 1024) (few : n ≤ 1024) (e : dst ≡ words_from k 0 (length (take n space)) f) where
  pub copied_words : dst ≡ words_from k 0 n f
  copied_words = let size = length-take-le n space (omega arith) in e ∙ ap (λ (m : ℕ). words_from k 0 m f) size

  module _ (r : Bool) (judged : Judged dst r) where
    pub copied_yes : r ≡ true → imaged (words_from k 0 n f) ≡ true
    copied_yes a = ap imaged (sym copied_words) ∙ imaged_yes dst r judged a

    pub copied_not : r ≡ false → imaged (words_from k 0 n f) ≡ false
    copied_not a = ap imaged (sym copied_words) ∙ imaged_not dst r judged a

module _ (f : List ℕ) (id : ℕ) (area area' : List ℕ) where
  pub fetches_good : (count : ℕ) (r : Fetched) → Ok count ≡ index_of f → FetchesFound (sought id count f) f area area' r → Fetches f id area area' r
  unfolding fetch_answer fetch_answer_by words_asked words_by
  fetches_good count r e s = record { answer = s.answer ∙ rw (← e); leaves = s.leaves ∙ rw (← e) }

  pub fetches_refused : (e : IndexError) → Err e ≡ index_of f → area' ≡ area → Fetches f id area area' (Err (error.Index e))
  unfolding fetch_answer fetch_answer_by
  fetches_refused error e a = record { answer = rw (← e); leaves = a }
