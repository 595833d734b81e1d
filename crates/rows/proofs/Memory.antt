-- What stands in a column.
-- Assumes nothing.
use Prim.Native.Nat.{ℕ, suc, ◌+◌}
use mathlib.Core.Path.{◌≡◌, refl, ap, ◌∙◌}
use mathlib.Core.Logic.{◌≢◌}
use mathlib.Core.Bool.{Bool}
use mathlib.Core.List.{List, [], ◌∷◌, ◌++◌}
use native.Mathlib.Omega.{arith}
use lib.ListN.{length}
use lib.Dec.{eqb}
use borrow.Author.Tests.{eq-eqb, ne_eqb}
use Rattle.signs.specs.Machine.{if_so}
use Rattle.rows.specs.Memory.{ListedFrom}

-- a word after a list
pub listed_more : (g g' : ℕ → ℕ) (m i x : ℕ) (l : List ℕ) → i ≡ m + length l → ((j : ℕ) → j ≢ i → g' j ≡ g j) → g' i ≡ x →
    ListedFrom g m l →
    ListedFrom g' m (l ++ (x ∷ []))
listed_more g g' m i x [] e k v p = (let z : m ≡ i = omega arith in ap g' z ∙ v, tt)
listed_more g g' m i x (y ∷ l) e k v p = (k m (λ z. omega arith) ∙ p.0, listed_more g g' (suc m) i x l (omega arith) k v p.1)

pub put_here : (g : ℕ → ℕ) (i x : ℕ) → if_so (eqb i i) x (g i) ≡ x
put_here g i x = ap (λ (t : Bool). if_so t x (g i)) (eq-eqb i i refl)

pub put_else : (g : ℕ → ℕ) (i x j : ℕ) → j ≢ i → if_so (eqb j i) x (g j) ≡ g j
put_else g i x j d = ap (λ (t : Bool). if_so t x (g j)) (ne_eqb j i d)

-- one is put there
pub listed_put : (g : ℕ → ℕ) (m i x : ℕ) (l : List ℕ) → i ≡ m + length l → ListedFrom g m l →
    ListedFrom (λ j. if_so (eqb j i) x (g j)) m (l ++ (x ∷ []))
listed_put g m i x l e p = listed_more g (λ j. if_so (eqb j i) x (g j)) m i x l e (λ j d. put_else g i x j d) (put_here g i x) p
