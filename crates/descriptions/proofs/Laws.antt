-- What is asked of a kind of graph.
-- Assumes nothing.
use mathlib.Core.Path.{◌≡◌}
use mathlib.Core.Option.{none, some}
use mathlib.Core.List.{List, [], ◌∷◌, ◌++◌, Memᴰ}
use Prim.Native.Nat.{ℕ, ◌<◌}
use lib.ListN.{length}
use Rattle.descriptions.specs.Joining.{Joining}
use Rattle.descriptions.specs.Canonical.{All}

-- each graph of the first list is among the second's
abbrev pub Within : {A : Type 0} → List A → List A → Type 0
Within {A} gs hs = (g : A) → Memᴰ g gs → Memᴰ g hs

pub record Laws {Graph : Type 0} (J : Joining Graph) : Type 1 where
  -- the graphs that have one image only
  pub Canonical : Graph → Type 0
  pub nil_canonical : Canonical J.nil
  -- a join is canonical
  pub fits : (gs : List Graph) → 0 < length gs → All Canonical gs → (K : Graph) → J.join gs ≡ some K → Canonical K
  -- order and repetition do not count
  pub order : (c d : List Graph) → 0 < length c → 0 < length d → All Canonical c → All Canonical d → Within c d → Within d c →
      J.join c ≡ J.join d
  -- a clash stays
  pub stays : (c d : List Graph) → 0 < length c → 0 < length d → All Canonical c → All Canonical d → Within c d → J.join c ≡ none →
      J.join d ≡ none
  -- a join stands for what it joins
  pub stands : (gs : List Graph) → 0 < length gs → All Canonical gs → (K : Graph) → J.join gs ≡ some K → (hs : List Graph) →
      All Canonical hs → J.join (K ∷ hs) ≡ J.join (gs ++ hs)
  -- "the graph that says nothing"
  pub silent : (hs : List Graph) → All Canonical hs → J.join (J.nil ∷ hs) ≡ J.join hs
  -- where two graphs clash, the program tells the node; there is one only, and only where they clash
  pub located : (g h : Graph) → Canonical g → Canonical h → J.join (g ∷ h ∷ []) ≡ none → J.ClashNode g h (J.clash_node g h)
  pub one_node : (g h : Graph) (i j : ℕ) → J.ClashNode g h i → J.ClashNode g h j → i ≡ j
  pub node_clash : (g h : Graph) → Canonical g → Canonical h → (i : ℕ) → J.ClashNode g h i → J.join (g ∷ h ∷ []) ≡ none
