-- Words as bytes: four bytes a word, and back; the words of a description, block by block.
-- Assumes nothing.
use Prim.Native.Nat.{ℕ, zero, suc, ◌+◌, ◌*◌, ◌-◌, ◌/◌, ◌%◌, ◌≤◌, ◌<◌}
use native.Mathlib.Omega.{arith}
use native.Mathlib.Nat.{mod-eq_of_lt, div-eq_of_lt, add-mul-mod_self_left, add-mul-div_left, div-div-eq-div-mul, div-add-mod}
use mathlib.Core.Path.{◌≡◌, refl, sym, ap, ◌∙◌}
use mathlib.Core.List.{List, [], ◌∷◌, ◌++◌, append_assoc}
use lib.ListN.{length, get_or, take, drop, length-append, length-drop}
use lib.Seq.{take-add, drop-drop, get_or-drop, get_or-take, get_or-append-add}
use Rattle.blocks.specs.Block.{block_of}
use Rattle.blocks.specs.Byte.{Bytes}
use Rattle.library.specs.Index.{first_part}
use Rattle.library.specs.File.{quad, word_bytes, Narrow}
use Rattle.library.specs.Read.{quad_at, words_from}

-- ---- one word
quad_back : (w : ℕ) → w < 4294967296 → (w % 256 + 256 * (w / 256 % 256)) + 65536 * (w / 65536 % 256 + 256 * (w / 16777216 % 256)) ≡ w
quad_back w h =
    let x : w / 65536 ≡ w / 256 / 256 = sym (div-div-eq-div-mul w 256 256) in
    let y : w / 16777216 ≡ w / 256 / 256 / 256 = sym (ap (λ (n : ℕ). n / 256) (div-div-eq-div-mul w 256 256) ∙ div-div-eq-div-mul w 65536 256) in
    rw x (rw y (by_steps w (w / 256) (w / 256 / 256) (w / 256 / 256 / 256) (div-add-mod w 256) (div-add-mod (w / 256) 256) (div-add-mod (w / 256 / 256) 256) h))
  where
    by_steps : (w a b c : ℕ) → 256 * a + w % 256 ≡ w → 256 * b + a % 256 ≡ a → 256 * c + b % 256 ≡ b → w < 4294967296
        → (w % 256 + 256 * (a % 256)) + 65536 * (b % 256 + 256 * (c % 256)) ≡ w
    by_steps w a b c e₁ e₂ e₃ h = let m : c % 256 ≡ c = mod-eq_of_lt (omega arith) in rw m (omega arith)

low_byte : (a m : ℕ) → a < 256 → (a + 256 * m) % 256 ≡ a
low_byte a m h = add-mul-mod_self_left a 256 m ∙ mod-eq_of_lt h

high_part : (a m : ℕ) → a < 256 → (a + 256 * m) / 256 ≡ m
high_part a m h = add-mul-div_left a m {y = 256} (omega arith) ∙ rw (div-eq_of_lt h) (omega arith)

quad_of : (a b c d : ℕ) → a < 256 → b < 256 → c < 256 → d < 256 → quad ((a + 256 * b) + 65536 * (c + 256 * d)) ≡ a ∷ b ∷ c ∷ d ∷ []
quad_of a b c d h₁ h₂ h₃ h₄ =
    let w = (a + 256 * b) + 65536 * (c + 256 * d) in
    let e : w ≡ a + 256 * (b + 256 * (c + 256 * d)) = omega arith in
    let w₁ : w / 256 ≡ b + 256 * (c + 256 * d) = rw e (high_part a (b + 256 * (c + 256 * d)) h₁) in
    let w₂ : w / 65536 ≡ c + 256 * d = sym (div-div-eq-div-mul w 256 256) ∙ rw w₁ (high_part b (c + 256 * d) h₂) in
    let w₃ : w / 16777216 ≡ d = sym (div-div-eq-div-mul w 65536 256) ∙ rw w₂ (high_part c d h₃) in
    let p₀ : w % 256 ≡ a = rw e (low_byte a (b + 256 * (c + 256 * d)) h₁) in
    let p₁ : w / 256 % 256 ≡ b = rw w₁ (low_byte b (c + 256 * d) h₂) in
    let p₂ : w / 65536 % 256 ≡ c = rw w₂ (low_byte c d h₃) in
    let p₃ : w / 16777216 % 256 ≡ d = rw w₃ (mod-eq_of_lt h₄) in
    rw p₀ (rw p₁ (rw p₂ (rw p₃)))

pub word_bytes_length : (ws : List ℕ) → length (word_bytes ws) ≡ 4 * length ws
unfolding word_bytes
word_bytes_length [] = refl
word_bytes_length (w ∷ ws) = let e = word_bytes_length ws in omega arith

-- ---- the words of one block
unfoldable pub block_words : ℕ → ℕ → List ℕ → List ℕ
block_words zero i b = []
block_words (suc m) i b = quad_at b (4 * i) ∷ block_words m (i + 1) b

pub block_words_length : (m i : ℕ) (b : List ℕ) → length (block_words m i b) ≡ m
unfolding block_words
block_words_length zero i b = refl
block_words_length (suc m) i b = ap suc (block_words_length m (i + 1) b)

module _ (f : List ℕ) where
  in_block : (k j : ℕ) → j < 512 → get_or (block_of k f) j 0 ≡ get_or f (512 * k + j) 0
  in_block k j h = get_or-take 512 (drop (512 * k) f) j 0 h ∙ get_or-drop (512 * k) f j 0

  quad_in_block : (k i : ℕ) → i < 126 → quad_at f (512 * (k + i / 126) + 4 * (i % 126)) ≡ quad_at (block_of k f) (4 * i)
  quad_in_block k i h =
      let d : i / 126 ≡ 0 = div-eq_of_lt h in
      let m : i % 126 ≡ i = mod-eq_of_lt h in
      let z : k + 0 ≡ k = omega arith in
      let e₀ = in_block k (4 * i) (omega arith) in
      let e₁ = in_block k (4 * i + 1) (omega arith) in
      let e₂ = in_block k (4 * i + 2) (omega arith) in
      let e₃ = in_block k (4 * i + 3) (omega arith) in
      let a₁ : (512 * k + 4 * i) + 1 ≡ 512 * k + (4 * i + 1) = omega arith in
      let a₂ : (512 * k + 4 * i) + 2 ≡ 512 * k + (4 * i + 2) = omega arith in
      let a₃ : (512 * k + 4 * i) + 3 ≡ 512 * k + (4 * i + 3) = omega arith in
      rw d (rw m (rw z (rw a₁ (rw a₂ (rw a₃ (rw e₀ (rw e₁ (rw e₂ (rw e₃)))))))))

  words_in_block : (m k i : ℕ) → i + m ≤ 126 → words_from k i m f ≡ block_words m i (block_of k f)
  unfolding words_from block_words
  words_in_block zero k i h = refl
  words_in_block (suc m) k i h =
      let e = quad_in_block k i (omega arith) in
      let r = words_in_block m k (i + 1) (omega arith) in
      rw e (rw r)

  words_add : (m n k i : ℕ) → words_from k i (m + n) f ≡ words_from k i m f ++ words_from k (i + m) n f
  unfolding words_from
  words_add zero n k i = let e : i + 0 ≡ i = omega arith in let z : 0 + n ≡ n = omega arith in rw e (rw z)
  words_add (suc m) n k i =
      let e : suc m + n ≡ suc (m + n) = omega arith in
      let g : (i + 1) + m ≡ i + suc m = omega arith in
      let r = words_add m n k (i + 1) in
      rw e (rw r (rw g))

  next_block : (n k i : ℕ) → words_from k (126 + i) n f ≡ words_from (k + 1) i n f
  unfolding words_from
  next_block zero k i = refl
  next_block (suc n) k i =
      let d : (126 + i) / 126 ≡ 1 + i / 126 = omega arith in
      let m : (126 + i) % 126 ≡ i % 126 = omega arith in
      let a : k + (1 + i / 126) ≡ (k + 1) + i / 126 = omega arith in
      let g : (126 + i) + 1 ≡ 126 + (i + 1) = omega arith in
      let r = next_block n k (i + 1) in
      rw d (rw m (rw a (rw g (rw r))))

  over_block : (k n m : ℕ) → n - first_part n ≡ m → words_from k (0 + first_part n) m f ≡ words_from (k + 1) 0 m f
  unfolding words_from
  over_block k n zero e = refl
  over_block k n (suc m) e =
      let g : 0 + first_part n ≡ 126 + 0 = omega arith in
      ap (λ (i : ℕ). words_from k i (suc m) f) g ∙ next_block (suc m) k 0

  pub words_split : (k n : ℕ) → words_from k 0 n f ≡ block_words (first_part n) 0 (block_of k f) ++ words_from (k + 1) 0 (n - first_part n) f
  words_split k n =
      let e : n ≡ first_part n + (n - first_part n) = omega arith in
      ap (λ (m : ℕ). words_from k 0 m f) e ∙ words_add (first_part n) (n - first_part n) k 0
      ∙ ap (λ (l : List ℕ). l ++ words_from k (0 + first_part n) (n - first_part n) f) (words_in_block (first_part n) k 0 (omega arith))
      ∙ ap (λ (l : List ℕ). block_words (first_part n) 0 (block_of k f) ++ l) (over_block k n (n - first_part n) refl)

-- ---- bytes to words and back
four_of : (l : List ℕ) → 4 ≤ length l → take 4 l ≡ get_or l 0 0 ∷ get_or l 1 0 ∷ get_or l 2 0 ∷ get_or l 3 0 ∷ []
four_of [] h = absurd (omega arith)
four_of (x ∷ []) h = absurd (omega arith)
four_of (x ∷ (y ∷ [])) h = absurd (omega arith)
four_of (x ∷ (y ∷ (z ∷ []))) h = absurd (omega arith)
four_of (x ∷ (y ∷ (z ∷ (w ∷ l)))) h = refl

pub bytes_of_words : (m i : ℕ) (b : List ℕ) → Bytes b → 4 * (i + m) ≤ length b → word_bytes (block_words m i b) ≡ take (4 * m) (drop (4 * i) b)
unfolding word_bytes block_words
bytes_of_words zero i b bytes h = refl
bytes_of_words (suc m) i b bytes h =
    let rest = drop (4 * i) b in
    let size = length-drop (4 * i) b in
    let e : 4 * suc m ≡ 4 + 4 * m = omega arith in
    let d : 4 * i + 4 ≡ 4 * (i + 1) = omega arith in
    let z : 4 * i + 0 ≡ 4 * i = omega arith in
    let four : take 4 rest ≡ quad (quad_at b (4 * i)) =
    four_of rest (omega arith)
    ∙ rw (get_or-drop (4 * i) b 0 0) (rw (get_or-drop (4 * i) b 1 0) (rw (get_or-drop (4 * i) b 2 0) (rw (get_or-drop (4 * i) b 3 0)
    (rw z (sym (quad_of (get_or b (4 * i) 0) (get_or b (4 * i + 1) 0) (get_or b (4 * i + 2) 0) (get_or b (4 * i + 3) 0) (bytes (4 * i)) (bytes (4 * i + 1)) (bytes (4 * i + 2)) (bytes (4 * i + 3)))))))) in
    let more : word_bytes (block_words m (i + 1) b) ≡ take (4 * m) (drop (4 * (i + 1)) b) = bytes_of_words m (i + 1) b bytes (omega arith) in
    let tail : take (4 * suc m) rest ≡ quad (quad_at b (4 * i)) ++ take (4 * m) (drop (4 * (i + 1)) b) =
    ap (λ (n : ℕ). take n rest) e ∙ take-add 4 (4 * m) rest ∙ rw four (ap (λ (l : List ℕ). quad (quad_at b (4 * i)) ++ take (4 * m) l) (drop-drop 4 (4 * i) b ∙ ap (λ (n : ℕ). drop n b) d)) in
    ap (λ (l : List ℕ). quad (quad_at b (4 * i)) ++ l) more ∙ sym tail

pub behind : (xs ys : List ℕ) (m n : ℕ) → length xs ≡ m → get_or (xs ++ ys) (m + n) 0 ≡ get_or ys n 0
behind xs ys m n e = rw (← e) (get_or-append-add xs ys n 0)

pub words_back : (ws before after : List ℕ) (i : ℕ) → Narrow ws → length before ≡ 4 * i → block_words (length ws) i (before ++ (word_bytes ws ++ after)) ≡ ws
unfolding word_bytes block_words
words_back [] before after i s h = refl
words_back (w ∷ ws) before after i s h =
    let b = before ++ ((quad w ++ word_bytes ws) ++ after) in
    let tail = (quad w ++ word_bytes ws) ++ after in
    let z : 4 * i + 0 ≡ 4 * i = omega arith in
    let g₀ : get_or b (4 * i) 0 ≡ w % 256 = ap (λ (n : ℕ). get_or b n 0) (sym z) ∙ behind before tail (4 * i) 0 h in
    let g₁ : get_or b (4 * i + 1) 0 ≡ w / 256 % 256 = behind before tail (4 * i) 1 h in
    let g₂ : get_or b (4 * i + 2) 0 ≡ w / 65536 % 256 = behind before tail (4 * i) 2 h in
    let g₃ : get_or b (4 * i + 3) 0 ≡ w / 16777216 % 256 = behind before tail (4 * i) 3 h in
    let word : quad_at b (4 * i) ≡ w = rw g₀ (rw g₁ (rw g₂ (rw g₃ (quad_back w s.0)))) in
    let same : b ≡ (before ++ quad w) ++ (word_bytes ws ++ after) = ap (λ (l : List ℕ). before ++ l) (append_assoc (quad w) (word_bytes ws) after) ∙ sym (append_assoc before (quad w) (word_bytes ws ++ after)) in
    let size : length (before ++ quad w) ≡ 4 * (i + 1) = length-append before (quad w) ∙ (let e = h in omega arith) in
    let rest : block_words (length ws) (i + 1) b ≡ ws = ap (block_words (length ws) (i + 1)) same ∙ words_back ws (before ++ quad w) after (i + 1) s.1 size in
    rw word (rw rest)
