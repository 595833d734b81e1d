-- The laws of a region of the working area. Assumes nothing.
use mathlib.Core.Path.{◌≡◌, refl, sym, ap, ◌∙◌}
use mathlib.Core.List.{List, ◌++◌}
use mathlib.Core.Logic.{◌⊎◌, ⊎_elim}
use Prim.Native.Nat.{ℕ, ◌+◌, ◌-◌, ◌≤◌, ◌<◌}
use native.Mathlib.Omega.{arith}
use lib.ListN.{length, take, drop, set, get_or, length-take, length-drop, length-append, get_or-append}
use lib.Seq.{ext_get_or, drop-set-add, take-set-lt, get_or-take, get_or-drop, length-take-le, take_at, drop_at, get_or-append-add}
use Rattle.area.specs.Map.{HELD, WORDS, MARKS}
use Rattle.area.specs.Region.{region, loaded_words}

pub length_region : (a n : ℕ) (w : List ℕ) → a + n ≤ length w → length (region a n w) ≡ n
unfolding region
length_region a n w h = simp (length-take, length-drop) (omega arith)

pub getD_region : (a n : ℕ) (w : List ℕ) (j : ℕ) → j < n → get_or (region a n w) j 0 ≡ get_or w (a + j) 0
unfolding region
getD_region a n w j h = rw (get_or-take, get_or-drop) refl

-- a store that falls into a region
pub region_set_same : (a n j : ℕ) (w : List ℕ) (v : ℕ) → j < n → region a n (set w (a + j) v) ≡ set (region a n w) j v
unfolding region
region_set_same a n j w v h = ap (take n) (drop-set-add a w j v) ∙ take-set-lt n (drop a w) j v h

-- two areas that agree on a region, word by word
pub region_ext : (a n : ℕ) (u w : List ℕ) → a + n ≤ length u → length u ≡ length w →
    ((j : ℕ) → j < n → get_or u (a + j) 0 ≡ get_or w (a + j) 0) → region a n u ≡ region a n w
region_ext a n u w h e f =
    let p : length (region a n u) ≡ n = length_region a n u h in
    let q : length (region a n w) ≡ n = length_region a n w (omega arith) in
    ext_get_or 0 (region a n u) (region a n w) (p ∙ sym q) (λ j l. let m : j < n = omega arith in getD_region a n u j m ∙ f j m
    ∙ sym (getD_region a n w j m))

-- the loaded words
pub word_at : (w : List ℕ) (j : ℕ) → j < 2048 → get_or (loaded_words w) j 0 ≡ get_or w (WORDS + j) 0
unfolding loaded_words
word_at w j h = getD_region WORDS 2048 w j h

pub words_many : (w : List ℕ) → 16384 ≤ length w → length (loaded_words w) ≡ 2048
unfolding loaded_words
words_many w h = length_region WORDS 2048 w (omega arith)

-- they are the same where the area is
pub words_same : (w w' : List ℕ) → 16384 ≤ length w → length w' ≡ length w → ((j : ℕ) → WORDS ≤ j → j < MARKS → get_or w' j 0 ≡ get_or w j 0) →
    loaded_words w' ≡ loaded_words w
unfolding loaded_words
words_same w w' h len same = region_ext WORDS 2048 w' w (omega arith) len (λ j l. same (WORDS + j) (omega arith) (omega arith))

-- what the classes hold stands first
pub held_at : (c : ℕ) → HELD + c ≡ c
held_at c = omega arith

-- ---- k words from p on, lent and put back
module _ (p k : ℕ) (w : List ℕ) where
  pub part_at : (i : ℕ) → i < k → get_or (take k (drop p w)) i 0 ≡ get_or w (p + i) 0
  part_at i h = get_or-take k (drop p w) i 0 h ∙ get_or-drop p w i 0

  pub part_long : p + k ≤ length w → length (take k (drop p w)) ≡ k
  part_long long = simp (length-take, length-drop) (omega arith)

module _ (p k : ℕ) (w t : List ℕ) (long : p + k ≤ length w) (size : length t ≡ k) where
  abbrev pub back : List ℕ
  back = take p w ++ (t ++ drop k (drop p w))

  before : length (take p w) ≡ p
  before = length-take-le p w (omega arith)

  pub back_length : length back ≡ length w
  back_length = omega (
    arith,
    length-append (take p w) (t ++ drop k (drop p w)),
    length-append t (drop k (drop p w)),
    before,
    size,
    length-drop k (drop p w),
    length-drop p w,
  )

  pub back_part : take k (drop p back) ≡ t
  back_part = ap (take k) (drop_at (take p w) (t ++ drop k (drop p w)) p before) ∙ take_at t (drop k (drop p w)) k size

  pub back_at : (i : ℕ) → i < k → get_or back (p + i) 0 ≡ get_or t i 0
  unfolding region
  back_at i h = sym (getD_region p k back i h) ∙ ap (λ (s : List ℕ). get_or s i 0) back_part

  after : (i : ℕ) → get_or back (p + (k + i)) 0 ≡ get_or w (p + (k + i)) 0
  after i =
      let a : length (take p w) + (k + i) ≡ p + (k + i) = omega (arith, before) in
      let b : length t + i ≡ k + i = omega (arith, size) in
      (rw a at (get_or-append-add (take p w) (t ++ drop k (drop p w)) (k + i) 0)) ∙ (rw b at (get_or-append-add t (drop k (drop p w)) i 0))
      ∙ get_or-drop k (drop p w) i 0 ∙ get_or-drop p w (k + i) 0

  pub back_rest : (j : ℕ) → p + k ≤ j → get_or back j 0 ≡ get_or w j 0
  back_rest j h = let e : p + (k + (j - (p + k))) ≡ j = omega arith in rw e at (after (j - (p + k)))

  pub back_off : (j : ℕ) → (j < p) ⊎ (p + k ≤ j) → get_or back j 0 ≡ get_or w j 0
  back_off j o =
      ⊎_elim (λ h. get_or-append (take p w) (t ++ drop k (drop p w)) 0 j (omega (arith, before)) ∙ get_or-take p w j 0 h) (λ h. back_rest j h) o
