-- The numbers of the nodes of two graphs: each node has its own, and each number below the sum of the counts has its node.
-- Assumes nothing.
use mathlib.Core.Path.{◌≡◌, refl, sym, ◌∙◌}
use mathlib.Core.Logic.{inl, inr}
use mathlib.Core.Bool.{Bool}
use mathlib.Core.List.{List, [], ◌∷◌}
use Prim.Native.Nat.{ℕ, ◌+◌, ◌-◌, ◌<◌}
use native.Mathlib.Omega.{arith}
use lib.ListN.{length}
use Rattle.theory.specs.Net.{Graph, beside}
use Rattle.theory.proofs.Instance.{code, code_one}
use Rattle.theory.proofs.Number.{TestLt, less, geq, test_lt}
use Rattle.theory.specs.ClashNode.{node_number}

module _ (g h : Graph) where
  abbrev gs : List Graph
  gs = g ∷ h ∷ []

  pub number_code : (x : (beside gs).Spot) → code 0 gs x ≡ node_number g h x
  number_code (inl x) = omega arith
  number_code (inr (inl y)) = omega arith
  number_code (inr (inr x'')) = elim x'' [ ]

  pub number_one : (x y : (beside gs).Spot) → node_number g h x ≡ node_number g h y → x ≡ y
  number_one x y e = code_one 0 gs x y (number_code x ∙ e ∙ sym (number_code y))

  pub number_low : (x : (beside gs).Spot) → node_number g h x < length g + length h
  number_low (inl x) = let l = x.1 in omega arith
  number_low (inr (inl y)) = let l = y.1 in omega arith
  number_low (inr (inr x'')) = elim x'' [ ]

  pub spot_at : (i : ℕ) → i < length g + length h → (x : (beside gs).Spot) × (node_number g h x ≡ i)
  spot_at i l = go (test_lt i (length g))
    where
      go : {t : Bool} → TestLt i (length g) t → (x : (beside gs).Spot) × (node_number g h x ≡ i)
      go (less m) = (inl (i, m), refl)
      go (geq m) = (inr (inl (i - length g, omega arith)), omega arith)
