-- Laws of the sums and the tests, in the form in which the functions' returns ask them.
-- Assumes nothing.
use Prim.Native.Nat.{ℕ, zero, suc, ◌+◌, ◌*◌, ◌-◌, ◌/◌, ◌%◌, ◌≤◌, ◌<◌}
use native.Mathlib.Omega.{arith}
use native.Mathlib.Numerals.{add-one}
use mathlib.Core.Path.{◌≡◌, refl, sym, ap, ◌∙◌}
use mathlib.Core.Bool.{Bool, true, false, ◌&&◌}
use mathlib.Core.List.{List, [], ◌∷◌, ◌++◌, append_assoc, append-nil}
use lib.ListN.{length, get_or, take, drop, replicate, length-replicate, drop_of_length-le, length-append, length-take, length-drop}
use lib.Seq.{drop-cons, sets, sets-eq, take_at, length-take-le, length-sets}
use borrow.Author.Tests.{eq-eqb, ne_eqb}
use Rattle.std.specs.Prelude.{eqb}
use Rattle.std.specs.List.{list_all}
use Rattle.blocks.specs.Block.{sum_limit, block_size, content_size, checked_size, whichever, pair, pair_at, sums, check, block, filled, zeros, intact, block_of, sealed}

pub next : (l : List ℕ) (i : ℕ) → i < length l → drop i l ≡ get_or l i 0 ∷ drop (i + 1) l
next l i h = drop-cons l i 0 h ∙ ap (λ (k : ℕ). get_or l i 0 ∷ drop k l) (sym (add-one i))

by_test : (b s t : Bool) → s ≡ t → (b && s) ≡ whichever b t false
by_test true s t e = e
by_test false s t e = refl

module _ (l : List ℕ) (a b i : ℕ) where
  pub sums_step : i < length l → sums a b (drop i l) ≡ sums ((a + get_or l i 0) % sum_limit) ((b + (a + get_or l i 0) % sum_limit) % sum_limit) (drop (i + 1) l)
  unfolding sums
  sums_step h = ap (sums a b) (next l i h)

  pub sums_done : length l ≤ i → sums a b (drop i l) ≡ (a, b)
  unfolding sums
  sums_done h = ap (sums a b) (drop_of_length-le l {i = i} h)

pub zeros_each : (l : List ℕ) → list_all (λ x. eqb x 0) l ≡ zeros l
unfolding zeros
zeros_each [] = refl
zeros_each (x ∷ xs) = by_test (eqb x 0) _ _ (zeros_each xs)

module _ (used number : ℕ) (b : List ℕ) where
  pub intact_size : (length b ≡ block_size → ⊥) → false ≡ intact used number b
  unfolding intact
  intact_size h = simp (ne_eqb _ _ h)

  module _ (f s : ℕ) (whole : length b ≡ block_size) (e : sums 0 0 (take checked_size b) ≡ (f, s)) where
    f_is : (sums 0 0 (take checked_size b)).0 ≡ f
    f_is = ap (λ (p : ℕ × ℕ). p.0) e

    s_is : (sums 0 0 (take checked_size b)).1 ≡ s
    s_is = ap (λ (p : ℕ × ℕ). p.1) e

    pub intact_rest : pair_at b 508 ≡ f → pair_at b 510 ≡ s → pair_at b 506 ≡ number → intact used number b ≡ zeros (take (content_size - used) (drop used b))
    unfolding intact
    intact_rest g g' h = simp (eq-eqb _ _ whole, f_is, s_is, eq-eqb _ _ g, eq-eqb _ _ g', eq-eqb _ _ h)

pub not_both : (t : Bool) → t ≡ false → t ≡ true → ⊥
not_both t e h = let z : ◌≡◌ {A = ℕ} 0 1 = cc in omega arith

pub zeros_none : (n : ℕ) (l : List ℕ) → n ≡ 0 → true ≡ zeros (take n l)
unfolding zeros
zeros_none zero l e = refl
zeros_none (suc n) l e = absurd (omega arith)

-- writing number and check
module _ (number : ℕ) (b : List ℕ) where
  pub sealed_not : (length b ≡ block_size → ⊥) → b ≡ sealed number b
  unfolding sealed
  sealed_not h = simp (ne_eqb _ _ h)

  module _ (whole : length b ≡ block_size) (b' b'' b''' : List ℕ) (f s : ℕ) where
    numbered : b' ≡ sets b 506 (pair number) → b' ≡ (take content_size b ++ pair number) ++ drop checked_size b
    numbered e = e ∙ sets-eq (pair number) b 506 (omega arith)

    size : length (take content_size b ++ pair number) ≡ checked_size
    size = let l = length-take-le 506 b (omega arith) in length-append (take content_size b) (pair number) ∙ rw l

    pub sealed_is : b' ≡ sets b 506 (pair number) → sums 0 0 (take checked_size b') ≡ (f, s) → b'' ≡ sets b' 508 (pair f) → b''' ≡ sets b'' 510 (pair s) → b''' ≡ sealed number b
    unfolding sealed block check
    sealed_is e₁ e₂ e₃ e₄ =
        let front = take content_size b ++ pair number in
        let head : take checked_size b' ≡ front = ap (take checked_size) (numbered e₁) ∙ take_at front (drop checked_size b) checked_size size in
        let long : length b' ≡ block_size = ap length e₁ ∙ length-sets b 506 (pair number) ∙ whole in
        let both : b''' ≡ sets b' 508 (pair f ++ pair s) = e₄ ∙ ap (λ (l : List ℕ). sets l 510 (pair s)) e₃ in
        let split : sets b' 508 (pair f ++ pair s) ≡ take 508 b' ++ (pair f ++ pair s) ++ drop 512 b' = sets-eq (pair f ++ pair s) b' 508 (omega arith) in
        let none : drop 512 b' ≡ [] = drop_of_length-le b' {i = 512} (omega arith) in
        let sum : sums 0 0 front ≡ (f, s) = ap (sums 0 0) (sym head) ∙ e₂ in
        let right : sealed number b ≡ front ++ (pair f ++ pair s) = simp (eq-eqb _ _ whole) (rw sum) in
        both ∙ split ∙ rw none (append-nil (take 508 b' ++ (pair f ++ pair s)) ∙ rw head (sym right))

-- the file has no block k
pub intact_short : (used k : ℕ) (file : List ℕ) → length file / block_size ≤ k → intact used k (block_of k file) ≡ false
intact_short used k file h =
    let e = length-take block_size (drop (block_size * k) file) in
    let d = length-drop (block_size * k) file in
    sym (intact_size used k (block_of k file) (λ z. omega arith))

-- content that was filled with zeros, and sealed
module _ (b c out : List ℕ) (used number : ℕ) (whole : length b ≡ block_size) (fits : used ≤ content_size) where
  pub finished : c ≡ replicate (length (take (content_size - used) (drop used b))) 0
      → out ≡ sealed number (take used b ++ (c ++ drop (content_size - used) (drop used b))) → out ≡ block (filled (take used b)) number
  unfolding sealed filled
  finished e s =
      let front = take used b in
      let rest = drop (content_size - used) (drop used b) in
      let x = front ++ (c ++ rest) in
      let dropped = length-drop used b in
      let size : length front ≡ used = length-take-le used b (omega arith) in
      let zeros_size : length c ≡ content_size - used =
      ap length e ∙ length-replicate {A = ℕ} (length (take (content_size - used) (drop used b))) 0
      ∙ length-take-le (content_size - used) (drop used b) (omega arith) in
      let clean = length-take-le (content_size - used) (drop used b) (omega arith) in
      let unused : length (take (content_size - used) (drop used b)) ≡ content_size - length front = omega arith in
      let content : c ≡ replicate (content_size - length front) 0 = e ∙ ap (λ (n : ℕ). replicate n 0) unused in
      let rest-size = length-drop (content_size - used) (drop used b) in
      let long : length x ≡ block_size = length-append front (c ++ rest) ∙ (let l = length-append c rest in omega arith) in
      let apart : x ≡ (front ++ c) ++ rest = sym (append_assoc front c rest) in
      let head : take content_size x ≡ front ++ c =
      ap (take content_size) apart ∙ take_at (front ++ c) rest content_size (length-append front c ∙ (omega arith)) in
      s ∙ simp (eq-eqb _ _ long) (rw head (rw content))
