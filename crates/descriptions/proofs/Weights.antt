-- What is asked of a kind of graph so that results are no longer than their inputs.
-- Assumes nothing.
use mathlib.Core.Path.{◌≡◌}
use mathlib.Core.Option.{some}
use mathlib.Core.List.{List, [], ◌∷◌}
use Prim.Native.Nat.{ℕ, suc, ◌+◌, ◌≤◌, ◌<◌}
use lib.ListN.{length}
use Rattle.descriptions.specs.Joining.{Joining}
use Rattle.descriptions.proofs.Laws.{Laws}
use Rattle.descriptions.specs.Canonical.{All}

abbrev pub total : {A : Type 0} → (A → ℕ) → List A → ℕ
total w [] = 0
total w (g ∷ gs) = w g + total w gs

pub record Weights {Graph : Type 0} {J : Joining Graph} (𝓛 : Laws J) : Type 1 where
  -- the codes in a graph are small, and a join keeps them so
  pub SoftGraph : Graph → Type 0
  -- the words of a graph
  pub weight : Graph → ℕ
  pub soft_join : (gs : List Graph) → 0 < length gs → All 𝓛.Canonical gs → All SoftGraph gs → (K : Graph) → J.join gs ≡ some K →
      SoftGraph K
  -- the join is no heavier: one word less for each graph but one
  pub weight_join : (gs : List Graph) → 0 < length gs → All 𝓛.Canonical gs → (K : Graph) → J.join gs ≡ some K →
      weight K + length gs ≤ suc (total weight gs)
