-- Two stacks of graphs that join alike, whatever is pushed on them.
-- Assumes nothing: these are definitions.
use Rattle.std.specs.Prelude.{◌≡◌}
use mathlib.Core.List.{List, ◌∷◌, ◌++◌, Memᴰ}
use Rattle.descriptions.specs.Joining.{Joining}
use Rattle.descriptions.specs.Canonical.{All, Fine}

module _ {Graph : Type 0} (J : Joining Graph) (Canonical : Graph → Type 0) where
  -- joining g to A changes nothing
  abbrev pub Says : List Graph → Graph → Type 0
  Says A g = (hs : List Graph) → All Canonical hs → J.join (A ++ hs) ≡ J.join (A ++ g ∷ hs)

  abbrev pub SaysAll : List Graph → List Graph → Type 0
  SaysAll A B = (g : Graph) → Memᴰ g B → Says A g

  pub record Equivalent (S T : List Graph) : Type 0 where
    pub fine₁ : Fine Canonical S
    pub fine₂ : Fine Canonical T
    pub to : SaysAll S T
    pub from : SaysAll T S
