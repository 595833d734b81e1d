-- Where two graphs clash: the smallest node whose class holds a clash.
-- Assumes nothing: these are definitions.
use Rattle.std.specs.Prelude.{◌≡◌, ◌≢◌, [], ◌∷◌, ℕ, ◌+◌, ◌<◌, length}
use Rattle.std.proofs.Common.{inl, inr}
use Rattle.theory.specs.Net.{Graph, Net, beside, Same, roots}

-- "whose class holds a clash once all classes are complete": "a class holds two different atoms, or an atom and an arc", here the class
-- of x
pub data ClashAt (N : Net) (Seed : N.Spot → N.Spot → Type 0) (x : N.Spot) : Type 0 where
  two_atoms : {y z : N.Spot} → Same N Seed x y → Same N Seed x z → (a b : ℕ) → N.Atom y a → N.Atom z b → a ≢ b →
      ClashAt N Seed x
  atom_and_arc : {y z : N.Spot} → Same N Seed x y → Same N Seed x z → (a : ℕ) → N.Atom y a → (f : ℕ) (u : N.Spot) →
      N.Arc z f u → ClashAt N Seed x

-- "counting the first graph's nodes and then the second's"
abbrev pub node_number : (g h : Graph) → (beside (g ∷ h ∷ [])).Spot → ℕ
node_number g h (inl x) = x.0
node_number g h (inr (inl y)) = length g + y.0
node_number g h (inr (inr no_spot)) = elim no_spot [ ]

-- the class of the node that has the number i holds a clash
abbrev pub NodeClashes : Graph → Graph → ℕ → Type 0
NodeClashes g h i = (x : (beside (g ∷ h ∷ [])).Spot)
    × (node_number g h x ≡ i) × ClashAt (beside (g ∷ h ∷ [])) (roots (beside (g ∷ h ∷ []))) x

-- "Joining two graphs shall tell the smallest node, counting the first graph's nodes and then the second's, whose class holds a clash
-- once all classes are complete."
pub record ClashNode (g h : Graph) (i : ℕ) : Type 0 where
  pub clashing : NodeClashes g h i
  pub smallest : (j : ℕ) → j < i → ¬ (NodeClashes g h j)
