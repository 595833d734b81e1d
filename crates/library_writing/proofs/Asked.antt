-- Laws of what is asked to be written, in the form in which the functions' returns ask them.
-- Assumes nothing.
use Prim.Native.Nat.{ℕ, zero, suc, ◌+◌, ◌*◌, ◌-◌, ◌≤◌, ◌<◌}
use native.Mathlib.Omega.{arith}
use native.Mathlib.Numerals.{sub-one}
use mathlib.Core.Path.{◌≡◌, refl, sym, ap, ◌∙◌}
use mathlib.Core.Bool.{true, false}
use mathlib.Core.List.{List, [], ◌∷◌, ◌++◌}
use lib.ListN.{length, get_or, take, drop, length-drop}
use lib.Seq.{take_all}
use lib.Dec.{leb, ltb}
use borrow.Author.Tests.{leb-true, le-leb, lt-leb, lt-ltb, le-ltb}
use Rattle.theory.specs.Limits.{input_limit}
use Rattle.blocks.specs.Block.{whichever, pair}
use Rattle.blocks.proofs.Whole.{whichever_true}
use Rattle.library.specs.Index.{identifier_limit, room_of}
use Rattle.library.specs.Read.{imaged}
use Rattle.library_writing.specs.Write.{split, listable, sound, InPairs, InReach, blocks_asked, index_asked}

-- a list without its first k elements, as a part of a slice has it
abbrev pub tail_of : ℕ → List ℕ → List ℕ
tail_of k l = take (length l - k) (drop k l)

pub tail_is : (k : ℕ) (l : List ℕ) → tail_of k l ≡ drop k l
tail_is k l = take_all (length l - k) (drop k l) (let e = length-drop k l in omega arith)

pub tail_length : (k : ℕ) (l : List ℕ) → length (tail_of k l) ≡ length l - k
tail_length k l = ap length (tail_is k l) ∙ length-drop k l

-- ---- the first entry, and those after it
listable_first : (c low : ℕ) (es : List ℕ) → 2 ≤ length es → 0 < c
    → listable c low es
    ≡ whichever (leb low (get_or es 0 0))
    (whichever (ltb (get_or es 0 0) identifier_limit)
    (whichever (leb (get_or es 1 0) input_limit) (listable (c - 1) (get_or es 0 0 + 1) (drop 2 es)) false)
    false)
    false
unfolding listable
listable_first zero low es two more = absurd (omega arith)
listable_first (suc c) low [] two more = absurd (omega arith)
listable_first (suc c) low (id ∷ []) two more = absurd (omega arith)
listable_first (suc c) low (id ∷ (n ∷ es)) two more = rw sub-one

sound_open : (es ws : List ℕ) → 2 ≤ length es
    → sound es ws
    ≡ whichever (leb (get_or es 1 0) (length ws))
    (whichever (imaged (take (get_or es 1 0) ws)) (sound (drop 2 es) (drop (get_or es 1 0) ws)) false)
    false
unfolding sound
sound_open [] ws two = absurd (omega arith)
sound_open (id ∷ []) ws two = absurd (omega arith)
sound_open (id ∷ (n ∷ es)) ws two = refl

pub split_first : (es ws : List ℕ) → 2 ≤ length es
    → split es ws ≡ (get_or es 0 0, take (get_or es 1 0) ws) ∷ split (drop 2 es) (drop (get_or es 1 0) ws)
unfolding split
split_first [] ws two = absurd (omega arith)
split_first (id ∷ []) ws two = absurd (omega arith)
split_first (id ∷ (n ∷ es)) ws two = refl

pub blocks_first : (es : List ℕ) → 2 ≤ length es → blocks_asked es ≡ room_of (get_or es 1 0) + blocks_asked (tail_of 2 es)
unfolding blocks_asked
blocks_first es two = go es two ∙ ap (λ (l : List ℕ). room_of (get_or es 1 0) + blocks_asked l) (sym (tail_is 2 es))
  where
    go : (es : List ℕ) → 2 ≤ length es → blocks_asked es ≡ room_of (get_or es 1 0) + blocks_asked (drop 2 es)
    go [] two = absurd (omega arith)
    go (id ∷ []) two = absurd (omega arith)
    go (id ∷ (n ∷ es)) two = refl

pub index_first : (k : ℕ) (es : List ℕ) → 2 ≤ length es
    → index_asked k es
    ≡ (pair (get_or es 0 0) ++ (pair k ++ (pair (get_or es 1 0) ++ pair 0))) ++ index_asked (k + room_of (get_or es 1 0)) (tail_of 2 es)
unfolding index_asked
index_first k es two =
    go es two
    ∙ ap (λ (l : List ℕ). (pair (get_or es 0 0) ++ (pair k ++ (pair (get_or es 1 0) ++ pair 0))) ++ index_asked (k + room_of (get_or es 1 0)) l)
    (sym (tail_is 2 es))
  where
    go : (es : List ℕ) → 2 ≤ length es
        → index_asked k es
        ≡ (pair (get_or es 0 0) ++ (pair k ++ (pair (get_or es 1 0) ++ pair 0))) ++ index_asked (k + room_of (get_or es 1 0)) (drop 2 es)
    go [] two = absurd (omega arith)
    go (id ∷ []) two = absurd (omega arith)
    go (id ∷ (n ∷ es)) two = refl

pub pairs_first : (es : List ℕ) → 2 ≤ length es → InPairs es → (get_or es 1 0 ≤ input_limit) × InPairs (tail_of 2 es)
pairs_first es two p = let q = go es two p in (q.0, rw (tail_is 2 es) q.1)
  where
    go : (es : List ℕ) → 2 ≤ length es → InPairs es → (get_or es 1 0 ≤ input_limit) × InPairs (drop 2 es)
    go [] two p = absurd (omega arith)
    go (id ∷ []) two p = absurd (omega arith)
    go (id ∷ (n ∷ es)) two p = p

-- ---- no entry
pub none_sound : (es ws : List ℕ) → length es < 2 → true ≡ sound es ws
unfolding sound
none_sound [] ws few = refl
none_sound (id ∷ []) ws few = refl
none_sound (id ∷ (n ∷ es)) ws few = absurd (omega arith)

pub none_split : (es ws : List ℕ) → length es < 2 → split es ws ≡ []
unfolding split
none_split [] ws few = refl
none_split (id ∷ []) ws few = refl
none_split (id ∷ (n ∷ es)) ws few = absurd (omega arith)

pub none_blocks : (es : List ℕ) → length es < 2 → 0 ≡ blocks_asked es
unfolding blocks_asked
none_blocks [] few = refl
none_blocks (id ∷ []) few = refl
none_blocks (id ∷ (n ∷ es)) few = absurd (omega arith)

pub none_index : (k : ℕ) (es : List ℕ) → length es < 2 → [] ≡ index_asked k es
unfolding index_asked
none_index k [] few = refl
none_index k (id ∷ []) few = refl
none_index k (id ∷ (n ∷ es)) few = absurd (omega arith)

pub none_pairs : (es : List ℕ) → length es < 2 → InPairs es → length es ≡ 0
none_pairs [] few p = refl
none_pairs (id ∷ []) few p = absurd p
none_pairs (id ∷ (n ∷ es)) few p = absurd (omega arith)

-- ---- 47
pub listable_none : (c low : ℕ) (es : List ℕ) → length es ≡ 0 → true ≡ listable c low es
unfolding listable
listable_none zero low [] h = refl
listable_none (suc c) low [] h = refl
listable_none c low (id ∷ es) h = absurd (omega arith)

pub listable_odd : (c low : ℕ) (es : List ℕ) → length es ≡ 1 → false ≡ listable c low es
unfolding listable
listable_odd c low [] h = absurd (omega arith)
listable_odd zero low (id ∷ []) h = refl
listable_odd (suc c) low (id ∷ []) h = refl
listable_odd c low (id ∷ (n ∷ es)) h = absurd (omega arith)

pub listable_full : (c low : ℕ) (es : List ℕ) → 2 ≤ length es → c ≡ 0 → false ≡ listable c low es
unfolding listable
listable_full zero low [] two h = absurd (omega arith)
listable_full zero low (id ∷ []) two h = refl
listable_full zero low (id ∷ (n ∷ es)) two h = refl
listable_full (suc c) low es two h = absurd (omega arith)

module _ (c low : ℕ) (es : List ℕ) (two : 2 ≤ length es) (more : 0 < c) where
  pub listable_low : get_or es 0 0 < low → false ≡ listable c low es
  listable_low h = sym (listable_first c low es two more ∙ simp (lt-leb _ _ h))

  module _ (rises : low ≤ get_or es 0 0) where
    pub listable_high : identifier_limit ≤ get_or es 0 0 → false ≡ listable c low es
    listable_high h = sym (listable_first c low es two more ∙ simp (le-leb _ _ rises, le-ltb _ _ h))

    module _ (short : get_or es 0 0 < identifier_limit) where
      pub listable_long : input_limit < get_or es 1 0 → false ≡ listable c low es
      listable_long h = sym (listable_first c low es two more ∙ simp (le-leb _ _ rises, lt-ltb _ _ short, lt-leb _ _ h))

      pub listable_step : get_or es 1 0 ≤ input_limit → listable (c - 1) (get_or es 0 0 + 1) (tail_of 2 es) ≡ listable c low es
      listable_step h =
          ap (listable (c - 1) (get_or es 0 0 + 1)) (tail_is 2 es)
          ∙ sym (listable_first c low es two more ∙ simp (le-leb _ _ rises, lt-ltb _ _ short, le-leb _ _ h))

-- what is listable comes in pairs
pub listable_pairs : (c low : ℕ) (es : List ℕ) → listable c low es ≡ true → InPairs es × (length es ≤ 2 * c)
unfolding listable
listable_pairs c low [] l = (tt, omega arith)
listable_pairs zero low (id ∷ []) l = absurd (let z : ◌≡◌ {A = ℕ} 0 1 = cc in omega arith)
listable_pairs (suc c) low (id ∷ []) l = absurd (let z : ◌≡◌ {A = ℕ} 0 1 = cc in omega arith)
listable_pairs zero low (id ∷ (n ∷ es)) l = absurd (let z : ◌≡◌ {A = ℕ} 0 1 = cc in omega arith)
listable_pairs (suc c) low (id ∷ (n ∷ es)) l =
    let a = whichever_true (leb low id) (whichever (ltb id identifier_limit) (whichever (leb n input_limit) (listable c (id + 1) es) false) false) l in
    let b = whichever_true (ltb id identifier_limit) (whichever (leb n input_limit) (listable c (id + 1) es) false) a.1 in
    let m = whichever_true (leb n input_limit) (listable c (id + 1) es) b.1 in
    let more = listable_pairs c (id + 1) es m.1 in
    let k = more.1 in
    ((leb-true n input_limit m.0, more.0), omega arith)

-- ---- 45
module _ (es ws : List ℕ) (two : 2 ≤ length es) where
  pub sound_short : length ws < get_or es 1 0 → false ≡ sound es ws
  sound_short h = sym (sound_open es ws two ∙ simp (lt-leb _ _ h))

  module _ (there : get_or es 1 0 ≤ length ws) where
    pub sound_stop : imaged (take (get_or es 1 0) ws) ≡ false → false ≡ sound es ws
    sound_stop e = sym (sound_open es ws two ∙ rw (le-leb _ _ there) (rw e))

    pub sound_step : imaged (take (get_or es 1 0) ws) ≡ true → sound (tail_of 2 es) (tail_of (get_or es 1 0) ws) ≡ sound es ws
    sound_step e =
        rw (tail_is 2 es) (rw (tail_is (get_or es 1 0) ws) (sym (sound_open es ws two ∙ rw (le-leb _ _ there) (rw e))))

  pub sound_first : sound es ws ≡ true → (get_or es 1 0 ≤ length ws) × (sound (tail_of 2 es) (tail_of (get_or es 1 0) ws) ≡ true)
  sound_first s =
      let n = get_or es 1 0 in
      let p = whichever_true (leb n (length ws)) (whichever (imaged (take n ws)) (sound (drop 2 es) (drop n ws)) false)
      (sym (sound_open es ws two) ∙ s) in
      let q = whichever_true (imaged (take n ws)) (sound (drop 2 es) (drop n ws)) p.1 in
      (leb-true n (length ws) p.0, rw (tail_is 2 es) (rw (tail_is n ws) q.1))

-- ---- numbers of blocks
pub reach_first : (k : ℕ) (es : List ℕ) → 2 ≤ length es → InReach k es → InReach (k + room_of (get_or es 1 0)) (tail_of 2 es)
reach_first k es two r =
    let near = r.near in
    let first = blocks_first es two in
    record { pairs = (pairs_first es two r.pairs).1; near = omega arith }
