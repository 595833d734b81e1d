-- What ties graphs of a kind to their structures.
-- Assumes nothing.
use mathlib.Core.Path.{◌≡◌}
use mathlib.Core.Logic.{◌↔◌}
use mathlib.Core.Option.{none, some}
use mathlib.Core.List.{List}
use Prim.Native.Nat.{◌<◌}
use lib.ListN.{length}
use Rattle.descriptions.specs.Joining.{Joining}
use Rattle.descriptions.specs.Structures.{Structures, SatisfiesAll}
use Rattle.descriptions.proofs.Laws.{Laws}
use Rattle.descriptions.specs.Canonical.{All}

pub record Sense {Graph : Type 0} {J : Joining Graph} (𝓛 : Laws J) (𝓜 : Structures Graph) : Type 2 where
  -- a join is satisfied exactly when all that it joins is
  pub joined_satisfied : (gs : List Graph) → 0 < length gs → All 𝓛.Canonical gs → (K : Graph) → J.join gs ≡ some K →
      (S : 𝓜.Structure) → 𝓜.Satisfies S K ↔ SatisfiesAll 𝓜 S gs
  pub clash_unsatisfied : (gs : List Graph) → 0 < length gs → All 𝓛.Canonical gs → J.join gs ≡ none → (S : 𝓜.Structure) →
      SatisfiesAll 𝓜 S gs → ⊥
  -- "finite"; "All nodes are reached from the root."
  pub Proper : 𝓜.Structure → Type 1
  -- a join is satisfied by some structure
  pub model : (gs : List Graph) → 0 < length gs → All 𝓛.Canonical gs → (K : Graph) → J.join gs ≡ some K →
      (S : 𝓜.Structure) × Proper S × 𝓜.Satisfies S K
