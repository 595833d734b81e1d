-- A description's blocks: those that were written are intact and hold its words, and intact ones are what is written of the words they hold.
-- Assumes nothing.
use Prim.Native.Nat.{ℕ, zero, suc, ◌+◌, ◌*◌, ◌-◌, ◌/◌, ◌≤◌}
use native.Mathlib.Omega.{arith}
use mathlib.Core.Path.{◌≡◌, refl, sym, ap, ◌∙◌}
use mathlib.Core.Bool.{true}
use mathlib.Core.List.{List, [], ◌∷◌, ◌++◌, append_assoc, append-nil}
use lib.ListN.{length, take, drop, replicate, length-append, length-take, length-drop, take-append-drop, drop_of_length-le}
use lib.Seq.{take_at, drop_at, take_all, take-add, drop-drop}
use Rattle.blocks.specs.Block.{block, filled, check, pair, intact, block_of}
use Rattle.blocks.specs.Byte.{Bytes}
use Rattle.blocks.proofs.Whole.{whichever_true, bytes_take, bytes_drop, intact_length, intact_block, block_intact, block_length}
use Rattle.library.specs.Index.{room_of, first_part}
use Rattle.library.specs.File.{word_bytes, description_blocks, Narrow}
use Rattle.library.specs.Read.{words_from, whole_blocks}
use Rattle.library.proofs.Reading.{words_length}
use Rattle.library.proofs.Words.{block_words, block_words_length, words_split, bytes_of_words, words_back, word_bytes_length}

-- ---- n words, of which the first block takes its part
module _ (n : ℕ) (xs ys : List ℕ) (first : length xs ≡ first_part n) (others : length ys ≡ n - first_part n) where
  pub take_part : take 126 (xs ++ ys) ≡ xs
  take_part = go ys others
    where
      go : (ys : List ℕ) → length ys ≡ n - first_part n → take 126 (xs ++ ys) ≡ xs
      go [] e = ap (take 126) (append-nil xs) ∙ take_all 126 xs (omega arith)
      go (y ∷ ys) e = take_at xs (y ∷ ys) 126 (let g : suc (length ys) ≡ n - first_part n = e in omega arith)

  pub drop_part : drop 126 (xs ++ ys) ≡ ys
  drop_part = go ys others
    where
      go : (ys : List ℕ) → length ys ≡ n - first_part n → drop 126 (xs ++ ys) ≡ ys
      go [] e = ap (drop 126) (append-nil xs) ∙ drop_of_length-le xs {i = 126} (omega arith)
      go (y ∷ ys) e = drop_at xs (y ∷ ys) 126 (let g : suc (length ys) ≡ n - first_part n = e in omega arith)

-- ---- intact blocks
module _ (f : List ℕ) (bytes : Bytes f) where
  pub run : (c k : ℕ) → take (512 * suc c) (drop (512 * k) f) ≡ block_of k f ++ take (512 * c) (drop (512 * (k + 1)) f)
  run c k =
      let e : 512 * suc c ≡ 512 + 512 * c = omega arith in
      let d : 512 * k + 512 ≡ 512 * (k + 1) = omega arith in
      ap (λ (n : ℕ). take n (drop (512 * k) f)) e ∙ take-add 512 (512 * c) (drop (512 * k) f)
      ∙ ap (λ (l : List ℕ). block_of k f ++ take (512 * c) l) (drop-drop 512 (512 * k) f ∙ ap (λ (n : ℕ). drop n f) d)

  pub blocks_written : (c k n : ℕ) → c ≡ room_of n → whole_blocks c k n f ≡ true → take (512 * c) (drop (512 * k) f) ≡ description_blocks c k (words_from k 0 n f)
  unfolding whole_blocks description_blocks
  blocks_written zero k n r e = refl
  blocks_written (suc c) k n r e =
      let b = block_of k f in
      let q = whichever_true (intact (4 * first_part n) k b) (whole_blocks c (k + 1) (n - first_part n) f) e in
      let byte : Bytes b = bytes_take 512 (drop (512 * k) f) (bytes_drop (512 * k) f bytes) in
      let fits : 4 * first_part n ≤ 506 = omega arith in
      let size : length b ≡ 512 = intact_length (4 * first_part n) k b fits byte q.0 in
      let xs = block_words (first_part n) 0 b in
      let ys = words_from (k + 1) 0 (n - first_part n) f in
      let split : words_from k 0 n f ≡ xs ++ ys = words_split f k n in
      let used : take (4 * first_part n) b ≡ word_bytes xs = sym (bytes_of_words (first_part n) 0 b byte (omega arith)) in
      let here : b ≡ block (filled (word_bytes xs)) k = intact_block (4 * first_part n) k b fits byte q.0 ∙ ap (λ (l : List ℕ). block (filled l) k) used in
      let l₁ = block_words_length (first_part n) 0 b in
      let l₂ = words_length f (n - first_part n) (k + 1) 0 in
      let first : take 126 (words_from k 0 n f) ≡ xs = ap (take 126) split ∙ take_part n xs ys l₁ l₂ in
      let others : drop 126 (words_from k 0 n f) ≡ ys = ap (drop 126) split ∙ drop_part n xs ys l₁ l₂ in
      let more : take (512 * c) (drop (512 * (k + 1)) f) ≡ description_blocks c (k + 1) ys = blocks_written c (k + 1) (n - first_part n) (omega arith) q.1 in
      run c k ∙ ap (λ (l : List ℕ). l ++ take (512 * c) (drop (512 * (k + 1)) f)) (here ∙ ap (λ (l : List ℕ). block (filled (word_bytes l)) k) (sym first))
      ∙ ap (λ (l : List ℕ). block (filled (word_bytes (take 126 (words_from k 0 n f)))) k ++ l) (more ∙ ap (description_blocks c (k + 1)) (sym others))

-- ---- written blocks
pub narrow_take : (m : ℕ) (ws : List ℕ) → Narrow ws → Narrow (take m ws)
narrow_take zero ws s = tt
narrow_take (suc m) [] s = tt
narrow_take (suc m) (w ∷ ws) s = (s.0, narrow_take m ws s.1)

pub narrow_drop : (m : ℕ) (ws : List ℕ) → Narrow ws → Narrow (drop m ws)
narrow_drop zero ws s = s
narrow_drop (suc m) [] s = s
narrow_drop (suc m) (w ∷ ws) s = narrow_drop m ws s.1

first_block : (pre b post : List ℕ) (k : ℕ) → length pre ≡ 512 * k → length b ≡ 512 → block_of k (pre ++ (b ++ post)) ≡ b
first_block pre b post k h s = ap (take 512) (drop_at pre (b ++ post) (512 * k) h) ∙ take_at b post 512 s

pub description_length : (c k : ℕ) (ws : List ℕ) → length (description_blocks c k ws) ≡ 512 * c
unfolding description_blocks
description_length zero k ws = refl
description_length (suc c) k ws =
    let v = take 126 ws in
    let fits : length (word_bytes v) ≤ 506 = (let a = word_bytes_length v in let t = length-take 126 ws in omega arith) in
    let h = block_length (word_bytes v) k fits in
    let r = description_length c (k + 1) (drop 126 ws) in
    length-append (block (filled (word_bytes v)) k) (description_blocks c (k + 1) (drop 126 ws)) ∙ (omega arith)

from_block : (v : List ℕ) (k : ℕ) → Narrow v → block_words (length v) 0 (block (filled (word_bytes v)) k) ≡ v
unfolding block filled
from_block v k s =
    let z = replicate {A = ℕ} (506 - length (word_bytes v)) 0 in
    let whole = (word_bytes v ++ z) ++ pair k in
    let e : whole ++ check whole ≡ word_bytes v ++ (z ++ (pair k ++ check whole)) = append_assoc (word_bytes v ++ z) (pair k) (check whole) ∙ append_assoc (word_bytes v) z (pair k ++ check whole) in
    ap (block_words (length v) 0) e ∙ words_back v [] (z ++ (pair k ++ check whole)) 0 s refl

no_words : (ws : List ℕ) → 0 ≡ room_of (length ws) → ws ≡ []
no_words [] r = refl
no_words (w ∷ ws) r = absurd (let e : 0 ≡ (suc (length ws) + 125) / 126 = r in omega arith)

pub blocks_read : (c k : ℕ) (ws pre post : List ℕ) → c ≡ room_of (length ws) → Narrow ws → length pre ≡ 512 * k → k + c ≤ 65536
    → (whole_blocks c k (length ws) (pre ++ (description_blocks c k ws ++ post)) ≡ true) × (words_from k 0 (length ws) (pre ++ (description_blocks c k ws ++ post)) ≡ ws)
unfolding whole_blocks description_blocks words_from
blocks_read zero k ws pre post r s h low = let e = no_words ws r in (refl, rw e)
blocks_read (suc c) k ws pre post r s h low =
    let v = take 126 ws in
    let rest = drop 126 ws in
    let n = length ws in
    let b = block (filled (word_bytes v)) k in
    let vl : length v ≡ first_part n = length-take 126 ws ∙ (omega arith) in
    let rl : length rest ≡ n - first_part n = length-drop 126 ws ∙ (omega arith) in
    let wl = word_bytes_length v in
    let fits : length (word_bytes v) ≤ 506 = omega arith in
    let size : length b ≡ 512 = block_length (word_bytes v) k fits in
    let f = pre ++ ((b ++ description_blocks c (k + 1) rest) ++ post) in
    let g = (pre ++ b) ++ (description_blocks c (k + 1) rest ++ post) in
    let e₁ : f ≡ pre ++ (b ++ (description_blocks c (k + 1) rest ++ post)) = ap (λ (l : List ℕ). pre ++ l) (append_assoc b (description_blocks c (k + 1) rest) post) in
    let e₂ : f ≡ g = e₁ ∙ sym (append_assoc pre b (description_blocks c (k + 1) rest ++ post)) in
    let here : block_of k f ≡ b = ap (block_of k) e₁ ∙ first_block pre b (description_blocks c (k + 1) rest ++ post) k h size in
    let more = blocks_read c (k + 1) rest (pre ++ b) post (omega arith) (narrow_drop 126 ws s) (length-append pre b ∙ (omega arith)) (omega arith) in
    let used : length (word_bytes v) ≡ 4 * first_part n = omega arith in
    let whole : intact (4 * first_part n) k (block_of k f) ≡ true = ap (intact (4 * first_part n) k) here ∙ ap (λ (m : ℕ). intact m k b) (sym used) ∙ block_intact (word_bytes v) k fits (omega arith) in
    let others : whole_blocks c (k + 1) (n - first_part n) f ≡ true = ap (λ (l : List ℕ). whole_blocks c (k + 1) (n - first_part n) l) e₂ ∙ ap (λ (m : ℕ). whole_blocks c (k + 1) m g) (sym rl) ∙ more.0 in
    let words : words_from (k + 1) 0 (n - first_part n) f ≡ rest = ap (words_from (k + 1) 0 (n - first_part n)) e₂ ∙ ap (λ (m : ℕ). words_from (k + 1) 0 m g) (sym rl) ∙ more.1 in
    let first : block_words (first_part n) 0 (block_of k f) ≡ v = ap (block_words (first_part n) 0) here ∙ ap (λ (m : ℕ). block_words m 0 b) (sym vl) ∙ from_block v k (narrow_take 126 ws s) in
    (rw whole others, words_split f k n ∙ rw first (rw words (take-append-drop 126 ws)))
