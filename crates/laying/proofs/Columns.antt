-- Words stored in the columns of a table.
-- Assumes nothing.
use Prim.Native.Nat.{ℕ, ◌+◌, ◌*◌, ◌<◌}
use mathlib.Core.Path.{◌≡◌, refl, sym, ap, subst, ◌∙◌}
use mathlib.Core.Bool.{Bool, true, false}
use mathlib.Core.List.{List}
use native.Mathlib.Omega.{arith}
use lib.ListN.{length, get_or, set, length-set}
use lib.Seq.{get_or-set_same, get_or-set_other}
use lib.Dec.{eqb}
use borrow.Author.Tests.{eqb-true, eqb-false}
use Rattle.signs.specs.Machine.{if_so}
use Rattle.laying.specs.Table.{RowPut, FourPut, AlternativePut}

-- a word is stored in a column whose rows lie at p
stored_at : (w : List ℕ) (p : ℕ → ℕ) (i x j : ℕ) → ((a b : ℕ) → p a ≡ p b → a ≡ b) → p i < length w →
    get_or (set w (p i) x) (p j) 0 ≡ if_so (eqb j i) x (get_or w (p j) 0)
stored_at w p i x j once l = go (eqb j i) refl where
  go : (t : Bool) → eqb j i ≡ t → get_or (set w (p i) x) (p j) 0 ≡ if_so t x (get_or w (p j) 0)
  go true e = ap (λ (k : ℕ). get_or (set w (p i) x) (p k) 0) (eqb-true j i e) ∙ get_or-set_same w (p i) x 0 l
  go false e = get_or-set_other w (p i) (p j) x 0 (λ z. eqb-false j i e (once j i z))

-- the two words of row i
row_put : (w : List ℕ) (i x h : ℕ) → 2 * i + 1 < length w → RowPut w i x h (set (set w (2 * i) x) (2 * i + 1) h)
row_put w i x h l =
    let w₁ = set w (2 * i) x in
    let l₁ = length-set w (2 * i) x in
    record {
      size = length-set w₁ (2 * i + 1) h ∙ l₁;
      row = λ j. get_or-set_other w₁ (2 * i + 1) (2 * j) h 0 (λ z. omega (arith, z))
          ∙ stored_at w (λ k. 2 * k) i x j (λ a b z. omega (arith, z)) (omega arith);
      home = λ j. stored_at w₁ (λ k. 2 * k + 1) i h j (λ a b z. omega (arith, z)) (omega (arith, l₁))
          ∙ ap (if_so (eqb j i) h) (get_or-set_other w (2 * i) (2 * j + 1) x 0 (λ z. omega (arith, z)));
    }

-- by another number of the same row
pub row_put_at : (w : List ℕ) (i x h : ℕ) (k : ℕ) → k ≡ i → 2 * i + 1 < length w →
    RowPut w i x h (set (set w (2 * k) x) (2 * k + 1) h)
row_put_at w i x h k e l = subst (λ (n : ℕ). RowPut w i x h (set (set w (2 * n) x) (2 * n + 1) h)) (sym e) (row_put w i x h l)

-- the four words of row i
four_put : (w : List ℕ) (i a b c d : ℕ) → 4 * i + 3 < length w →
    FourPut w i a b c d (set (set (set (set w (4 * i) a) (4 * i + 1) b) (4 * i + 2) c) (4 * i + 3) d)
four_put w i a b c d l =
    let w₁ = set w (4 * i) a in
    let w₂ = set w₁ (4 * i + 1) b in
    let w₃ = set w₂ (4 * i + 2) c in
    let l₁ = length-set w (4 * i) a in
    let l₂ = length-set w₁ (4 * i + 1) b in
    let l₃ = length-set w₂ (4 * i + 2) c in
    record {
      size = length-set w₃ (4 * i + 3) d ∙ l₃ ∙ l₂ ∙ l₁;
      first = λ j. get_or-set_other w₃ (4 * i + 3) (4 * j) d 0 (λ z. omega (arith, z))
          ∙ get_or-set_other w₂ (4 * i + 2) (4 * j) c 0 (λ z. omega (arith, z))
          ∙ get_or-set_other w₁ (4 * i + 1) (4 * j) b 0 (λ z. omega (arith, z))
          ∙ stored_at w (λ k. 4 * k) i a j (λ m n z. omega (arith, z)) (omega arith);
      second = λ j. get_or-set_other w₃ (4 * i + 3) (4 * j + 1) d 0 (λ z. omega (arith, z))
          ∙ get_or-set_other w₂ (4 * i + 2) (4 * j + 1) c 0 (λ z. omega (arith, z))
          ∙ stored_at w₁ (λ k. 4 * k + 1) i b j (λ m n z. omega (arith, z)) (omega (arith, l₁))
          ∙ ap (if_so (eqb j i) b) (get_or-set_other w (4 * i) (4 * j + 1) a 0 (λ z. omega (arith, z)));
      third = λ j. get_or-set_other w₃ (4 * i + 3) (4 * j + 2) d 0 (λ z. omega (arith, z))
          ∙ stored_at w₂ (λ k. 4 * k + 2) i c j (λ m n z. omega (arith, z)) (omega (arith, l₁, l₂))
          ∙ ap (if_so (eqb j i) c) (get_or-set_other w₁ (4 * i + 1) (4 * j + 2) b 0 (λ z. omega (arith, z))
          ∙ get_or-set_other w (4 * i) (4 * j + 2) a 0 (λ z. omega (arith, z)));
      fourth = λ j. stored_at w₃ (λ k. 4 * k + 3) i d j (λ m n z. omega (arith, z)) (omega (arith, l₁, l₂, l₃))
          ∙ ap (if_so (eqb j i) d) (get_or-set_other w₂ (4 * i + 2) (4 * j + 3) c 0 (λ z. omega (arith, z))
          ∙ get_or-set_other w₁ (4 * i + 1) (4 * j + 3) b 0 (λ z. omega (arith, z))
          ∙ get_or-set_other w (4 * i) (4 * j + 3) a 0 (λ z. omega (arith, z)));
    }

pub four_put_at : (w : List ℕ) (i a b c d : ℕ) (k : ℕ) → k ≡ i → 4 * i + 3 < length w →
    FourPut w i a b c d (set (set (set (set w (4 * k) a) (4 * k + 1) b) (4 * k + 2) c) (4 * k + 3) d)
four_put_at w i a b c d k e l =
    subst (λ (n : ℕ). FourPut w i a b c d (set (set (set (set w (4 * n) a) (4 * n + 1) b) (4 * n + 2) c) (4 * n + 3) d)) (sym e)
    (four_put w i a b c d l)

-- an alternative: its owner's last one is it, and it has four words
alternative_put : (w : List ℕ) (k o g s : ℕ) (w' : List ℕ) → 4 * o + 3 < length w →
    FourPut (set w (4 * o + 2) k) k g (get_or w (4 * o + 2) 0) 0 s w' → AlternativePut w k o g s w'
alternative_put w k o g s w' l f =
    let w₁ = set w (4 * o + 2) k in
    record {
      size = f.size ∙ length-set w (4 * o + 2) k;
      groups = λ j. f.first j ∙ ap (if_so (eqb j k) g) (get_or-set_other w (4 * o + 2) (4 * j) k 0 (λ z. omega (arith, z)));
      befores = λ j. f.second j
          ∙ ap (if_so (eqb j k) (get_or w (4 * o + 2) 0)) (get_or-set_other w (4 * o + 2) (4 * j + 1) k 0 (λ z. omega (arith, z)));
      lasts = λ j. f.third j ∙ ap (if_so (eqb j k) 0) (stored_at w (λ m. 4 * m + 2) o k j (λ m n z. omega (arith, z)) (omega arith));
      spots = λ j. f.fourth j ∙ ap (if_so (eqb j k) s) (get_or-set_other w (4 * o + 2) (4 * j + 3) k 0 (λ z. omega (arith, z)));
    }

pub alternative_put_at : (w : List ℕ) (k o g s : ℕ) (w' : List ℕ) (n x : ℕ) → n ≡ o → x ≡ get_or w (4 * n + 2) 0 → 4 * o + 3 < length w →
    FourPut (set w (4 * n + 2) k) k g x 0 s w' → AlternativePut w k o g s w'
alternative_put_at w k o g s w' n x e q l f =
    alternative_put w k o g s w' l
    (subst (λ (m : ℕ). FourPut (set w (4 * m + 2) k) k g (get_or w (4 * m + 2) 0) 0 s w') e
    (subst (λ (y : ℕ). FourPut (set w (4 * n + 2) k) k g y 0 s w') q f))
