-- Which bytes are an intact block: those of a content with zeros where it is unused, with its number and its check, and no others.
-- Assumes nothing.
use Prim.Native.Nat.{ℕ, zero, suc, ◌+◌, ◌*◌, ◌-◌, ◌/◌, ◌%◌, ◌≤◌, ◌<◌}
use native.Mathlib.Omega.{arith}
use native.Mathlib.Nat.{mod-lt, mod-eq_of_lt, div-eq_of_lt, add-mul-mod_self_left, add-mul-div_left}
use mathlib.Core.Path.{◌≡◌, refl, sym, ap, ◌∙◌}
use mathlib.Core.Bool.{Bool, true, false}
use mathlib.Core.List.{List, [], ◌∷◌, ◌++◌, append_assoc}
use lib.ListN.{length, get_or, take, drop, replicate, length-append, length-drop, length-replicate, take-append-drop}
use lib.Seq.{take_at, drop_at, length-take-le, take-add, get_or-drop, get_or-append-add}
use lib.Dec.{eqb}
use borrow.Author.Tests.{eq-eqb, eqb-true}
use Rattle.blocks.specs.Block.{sum_limit, block_size, content_size, checked_size, whichever, pair, pair_at, sums, check, block, filled, zeros, intact}
use Rattle.blocks.specs.Byte.{Bytes}

-- ---- bytes
pub bytes_drop : (n : ℕ) (l : List ℕ) → Bytes l → Bytes (drop n l)
bytes_drop n l b i = let e = get_or-drop n l i 0 in let h = b (n + i) in omega arith

pub bytes_take : (n : ℕ) (l : List ℕ) → Bytes l → Bytes (take n l)
bytes_take zero l b i = omega arith
bytes_take (suc n) [] b i = omega arith
bytes_take (suc n) (x ∷ l) b zero = b zero
bytes_take (suc n) (x ∷ l) b (suc i) = bytes_take n l (λ j. b (suc j)) i

-- ---- numbers in 16 bits
pub pair_back : (n : ℕ) → n < 65536 → n % 256 + 256 * (n / 256 % 256) ≡ n
pair_back n h = omega arith

pub pair_of : (a b n : ℕ) → a < 256 → b < 256 → a + 256 * b ≡ n → pair n ≡ a ∷ b ∷ []
pair_of a b n h k e =
    let x : (a + 256 * b) % 256 ≡ a = add-mul-mod_self_left a 256 b ∙ mod-eq_of_lt h in
    let d : (a + 256 * b) / 256 ≡ b = add-mul-div_left a b {y = 256} (omega arith) ∙ rw (div-eq_of_lt h) (omega arith) in
    rw (← e) (rw x (rw d (rw (mod-eq_of_lt k))))

-- ---- tests
pub whichever_true : (t u : Bool) → whichever t u false ≡ true → (t ≡ true) × (u ≡ true)
whichever_true true u e = (refl, e)
whichever_true false u e = absurd (let z : ◌≡◌ {A = ℕ} 0 1 = cc in omega arith)

-- ---- sums
sums_small : (l : List ℕ) (a b : ℕ) → a < sum_limit → b < sum_limit → ((sums a b l).0 < sum_limit) × ((sums a b l).1 < sum_limit)
unfolding sums
sums_small [] a b h k = (h, k)
sums_small (x ∷ l) a b h k = sums_small l _ _ (mod-lt (a + x) (omega arith)) (mod-lt (b + (a + x) % sum_limit) (omega arith))

-- ---- lists of known length
pub two : (l : List ℕ) → 2 ≤ length l → take 2 l ≡ get_or l 0 0 ∷ get_or l 1 0 ∷ []
two [] h = absurd (omega arith)
two (x ∷ []) h = absurd (omega arith)
two (x ∷ (y ∷ l)) h = refl

none_left : (l : List ℕ) → length l ≡ 0 → l ≡ []
none_left [] h = refl
none_left (x ∷ l) h = absurd (omega arith)

four : (l : List ℕ) → length l ≡ 4 → l ≡ get_or l 0 0 ∷ get_or l 1 0 ∷ get_or l 2 0 ∷ get_or l 3 0 ∷ []
four [] h = absurd (omega arith)
four (x ∷ []) h = absurd (omega arith)
four (x ∷ (y ∷ [])) h = absurd (omega arith)
four (x ∷ (y ∷ (z ∷ []))) h = absurd (omega arith)
four (x ∷ (y ∷ (z ∷ (w ∷ l)))) h = let e = none_left l (omega arith) in rw e

zeros_are : (l : List ℕ) → zeros l ≡ true → l ≡ replicate (length l) 0
unfolding zeros
zeros_are [] e = refl
zeros_are (x ∷ l) e =
    let p = whichever_true (eqb x 0) (zeros l) e in
    let x0 = eqb-true x 0 p.0 in
    let r = zeros_are l p.1 in
    cc

pub are_zeros : (n : ℕ) → zeros (replicate n 0) ≡ true
unfolding zeros
are_zeros zero = refl
are_zeros (suc n) = are_zeros n

-- ---- an intact block
module _ (used number : ℕ) (b : List ℕ) (fits : used ≤ content_size) (bytes : Bytes b) where
  pub intact_length : intact used number b ≡ true → length b ≡ block_size
  unfolding intact
  intact_length e = eqb-true _ _ (whichever_true _ _ e).0

  pub intact_block : intact used number b ≡ true → b ≡ block (filled (take used b)) number
  unfolding intact block check filled
  intact_block e =
      let p = whichever_true _ _ e in
      let q = whichever_true _ _ p.1 in
      let r = whichever_true _ _ q.1 in
      let s = whichever_true _ _ r.1 in
      let whole : length b ≡ 512 = eqb-true _ _ p.0 in
      let unused = take (506 - used) (drop used b) in
      let gone : length unused ≡ 506 - used = length-take-le (506 - used) (drop used b) (let d = length-drop used b in omega arith) in
      let nil : unused ≡ replicate (506 - used) 0 = zeros_are unused s.1 ∙ rw gone in
      let sum : 506 ≡ used + (506 - used) = omega arith in
      let long : length (take used b) ≡ used = length-take-le used b (omega arith) in
      let content : take 506 b ≡ take used b ++ replicate (506 - used) 0 = ap (λ (n : ℕ). take n b) sum ∙ take-add used (506 - used) b ∙ rw nil in
      let here : take 2 (drop 506 b) ≡ pair number =
      two (drop 506 b) (let d = length-drop 506 b in omega arith)
      ∙ rw (get_or-drop 506 b 0 0, get_or-drop 506 b 1 0) (sym (pair_of (get_or b 506 0) (get_or b 507 0) number (bytes 506) (bytes 507) (eqb-true _ _ s.0))) in
      let front : take 508 b ≡ take 506 b ++ pair number = take-add 506 2 b ∙ rw here in
      let back : drop 508 b ≡ get_or b 508 0 ∷ get_or b 509 0 ∷ get_or b 510 0 ∷ get_or b 511 0 ∷ [] =
      four (drop 508 b) (let d = length-drop 508 b in omega arith)
      ∙ rw (get_or-drop 508 b 0 0, get_or-drop 508 b 1 0, get_or-drop 508 b 2 0, get_or-drop 508 b 3 0) in
      let first = sym (pair_of (get_or b 508 0) (get_or b 509 0) _ (bytes 508) (bytes 509) (eqb-true _ _ q.0)) in
      let second = sym (pair_of (get_or b 510 0) (get_or b 511 0) _ (bytes 510) (bytes 511) (eqb-true _ _ r.0)) in
      let check_is : drop 508 b ≡ pair (sums 0 0 (take 508 b)).0 ++ pair (sums 0 0 (take 508 b)).1 = back ∙ ap (λ (l : List ℕ). l ++ (get_or b 510 0 ∷ get_or b 511 0 ∷ [])) first ∙ ap (λ (l : List ℕ). pair (sums 0 0 (take 508 b)).0 ++ l) second in
      let same : take 508 b ≡ (take used b ++ replicate (506 - length (take used b)) 0) ++ pair number = front ∙ rw long (rw content) in
      sym (take-append-drop 508 b) ∙ rw check_is (ap (λ (l : List ℕ). l ++ (pair (sums 0 0 l).0 ++ pair (sums 0 0 l).1)) same)

-- ---- a block that was made so
module _ (content : List ℕ) (number : ℕ) (fits : length content ≤ content_size) where
  filled_length : length (filled content) ≡ content_size
  unfolding filled
  filled_length = length-append content (replicate (506 - length content) 0) ∙ (let r = length-replicate {A = ℕ} (506 - length content) 0 in rw r (omega arith))

  front_length : length (filled content ++ pair number) ≡ checked_size
  front_length = length-append (filled content) (pair number) ∙ rw filled_length

  pub block_length : length (block (filled content) number) ≡ block_size
  unfolding block check
  block_length = length-append (filled content ++ pair number) _ ∙ rw front_length

behind : (xs ys : List ℕ) (m n : ℕ) → length xs ≡ m → get_or (xs ++ ys) (m + n) 0 ≡ get_or ys n 0
behind xs ys m n e = rw (← e) (get_or-append-add xs ys n 0)

module _ (used number : ℕ) (b : List ℕ) where
  intact_made : length b ≡ block_size → pair_at b 508 ≡ (sums 0 0 (take checked_size b)).0 → pair_at b 510 ≡ (sums 0 0 (take checked_size b)).1 → pair_at b 506 ≡ number
      → zeros (take (content_size - used) (drop used b)) ≡ true → intact used number b ≡ true
  unfolding intact
  intact_made h f s n z = simp (eq-eqb _ _ h, eq-eqb _ _ f, eq-eqb _ _ s, eq-eqb _ _ n, z)

block_unused : (content : List ℕ) (number : ℕ) → zeros (take (content_size - length content) (drop (length content) (block (filled content) number))) ≡ true
unfolding block filled
block_unused content number =
    let n = content_size - length content in
    let nil = replicate {A = ℕ} n 0 in
    let whole = (content ++ nil) ++ pair number in
    let after = pair number ++ check whole in
    let split : whole ++ check whole ≡ content ++ (nil ++ after) = append_assoc (content ++ nil) (pair number) (check whole) ∙ append_assoc content nil after in
    let rest : drop (length content) (whole ++ check whole) ≡ nil ++ after = ap (drop (length content)) split ∙ drop_at content (nil ++ after) (length content) refl in
    let part : take n (nil ++ after) ≡ nil = take_at nil after n (length-replicate {A = ℕ} n 0) in
    ap (λ (l : List ℕ). zeros (take n l)) rest ∙ ap zeros part ∙ are_zeros n

module _ (content : List ℕ) (number : ℕ) (fits : length content ≤ content_size) (small : number < 65536) where
  front : List ℕ
  front = filled content ++ pair number

  pub block_intact : intact (length content) number (block (filled content) number) ≡ true
  unfolding intact block check front
  block_intact =
      let b = block (filled content) number in
      let long = front_length content number fits in
      let whole : length b ≡ 512 = block_length content number fits in
      let f = (sums 0 0 front).0 in
      let s = (sums 0 0 front).1 in
      let small-sums = sums_small front 0 0 (omega arith) (omega arith) in
      let tail = pair f ++ pair s in
      let head : take 508 b ≡ front = take_at front tail 508 long in
      let first : pair_at b 508 ≡ f = rw (behind front tail 508 0 long, behind front tail 508 1 long) (pair_back f (omega arith)) in
      let second : pair_at b 510 ≡ s = rw (behind front tail 508 2 long, behind front tail 508 3 long) (pair_back s (omega arith)) in
      let split : b ≡ filled content ++ (pair number ++ tail) = append_assoc (filled content) (pair number) tail in
      let Filled-is = filled_length content number fits in
      let here : pair_at b 506 ≡ number = rw split (rw (behind (filled content) (pair number ++ tail) 506 0 Filled-is, behind (filled content) (pair number ++ tail) 506 1 Filled-is) (pair_back number small)) in
      let sums_is : sums 0 0 (take 508 b) ≡ sums 0 0 front = ap (sums 0 0) head in
      intact_made (length content) number b whole (first ∙ ap (λ (p : ℕ × ℕ). p.0) (sym sums_is)) (second ∙ ap (λ (p : ℕ × ℕ). p.1) (sym sums_is)) here (block_unused content number)
