-- Laws of listing, in the form in which the functions' returns ask them.
-- Assumes nothing.
use Prim.Native.Nat.{ℕ, zero, suc, ◌+◌, ◌*◌, ◌<◌}
use native.Mathlib.Omega.{arith}
use mathlib.Core.Path.{◌≡◌, refl, sym, ap, ◌∙◌}
use mathlib.Core.List.{List, [], ◌∷◌, ◌++◌, append_assoc}
use lib.ListN.{length, get_or, drop, set, length-append}
use lib.Seq.{set_at, drop-cons}
use native.Mathlib.Numerals.{add-one}
use Rattle.blocks.specs.Block.{pair_at}
use Rattle.library.specs.Contents.{listing}

module _ (b : List ℕ) where
  list_length : (c p : ℕ) → length (listing c p b) ≡ 2 * c
  unfolding listing
  list_length zero p = refl
  list_length (suc c) p = let e = list_length c (p + 8) in omega arith

  -- one entry more, at the end
  list_more : (c p : ℕ) → listing (c + 1) p b ≡ listing c p b ++ (pair_at b (p + 8 * c) ∷ pair_at b (p + 8 * c + 4) ∷ [])
  unfolding listing
  list_more zero p = let e : p + 0 ≡ p = omega arith in rw e
  list_more (suc c) p =
      let e : suc c + 1 ≡ suc (c + 1) = omega arith in
      let g : (p + 8) + 8 * c ≡ p + 8 * suc c = omega arith in
      let h = list_more c (p + 8) in
      rw e (rw h (rw g))

  pub list_none : (dst : List ℕ) → dst ≡ listing 0 2 b ++ drop (2 * 0) dst
  unfolding listing
  list_none dst = refl

  pub list_step : (i : ℕ) (dst dst₀ : List ℕ) → 2 * i + 1 < length dst₀ → dst ≡ listing i 2 b ++ drop (2 * i) dst₀
      → set (set dst (2 * i) (pair_at b (2 + 8 * i))) (2 * i + 1) (pair_at b ((2 + 8 * i) + 4)) ≡ listing (i + 1) 2 b ++ drop (2 * (i + 1)) dst₀
  list_step i dst dst₀ h e =
      let x = pair_at b (2 + 8 * i) in
      let y = pair_at b ((2 + 8 * i) + 4) in
      let front = listing i 2 b in
      let d₀ = get_or dst₀ (2 * i) 0 in
      let d₁ = get_or dst₀ (2 * i + 1) 0 in
      let tail = drop (2 * (i + 1)) dst₀ in
      let k : suc (2 * i + 1) ≡ 2 * (i + 1) = omega arith in
      let rest : drop (2 * i) dst₀ ≡ d₀ ∷ d₁ ∷ tail =
      drop-cons dst₀ (2 * i) 0 (omega arith) ∙ ap (λ (n : ℕ). d₀ ∷ drop n dst₀) (sym (add-one (2 * i)))
      ∙ ap (λ (l : List ℕ). d₀ ∷ l) (drop-cons dst₀ (2 * i + 1) 0 h ∙ ap (λ (n : ℕ). d₁ ∷ drop n dst₀) k) in
      let size = list_length i 2 in
      let one : set dst (2 * i) x ≡ front ++ x ∷ d₁ ∷ tail = ap (λ (l : List ℕ). set l (2 * i) x) (e ∙ ap (λ (l : List ℕ). front ++ l) rest) ∙ set_at front d₀ (d₁ ∷ tail) x (2 * i) size in
      let apart : front ++ x ∷ d₁ ∷ tail ≡ (front ++ (x ∷ [])) ++ d₁ ∷ tail = sym (append_assoc front (x ∷ []) (d₁ ∷ tail)) in
      let two : set ((front ++ (x ∷ [])) ++ d₁ ∷ tail) (2 * i + 1) y ≡ (front ++ (x ∷ [])) ++ y ∷ tail = set_at (front ++ (x ∷ [])) d₁ tail y (2 * i + 1) (length-append front (x ∷ []) ∙ (omega arith)) in
      let more : listing (i + 1) 2 b ≡ front ++ (x ∷ y ∷ []) = list_more i 2 in
      ap (λ (l : List ℕ). set l (2 * i + 1) y) (one ∙ apart) ∙ two ∙ append_assoc front (x ∷ []) (y ∷ tail)
      ∙ sym (append_assoc front (x ∷ y ∷ []) tail) ∙ ap (λ (l : List ℕ). l ++ tail) (sym more)
