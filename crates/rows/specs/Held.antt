-- What stands in the memory while signs are gone through.
-- Assumes nothing: these are definitions.
use Rattle.std.specs.Prelude.{ℕ, suc, ◌+◌, ◌<◌, ◌≡◌, List, [], ◌∷◌, length}
use Rattle.rows.specs.Machine.{Alt, Out, OpenFrame}
use Rattle.rows.specs.Plan.{renewed, lasts, none_yet}
use Rattle.rows.specs.Memory.{Memory, stored, ListedFrom}
use Rattle.rows.specs.Laid.{mapped, arc_word, home_of_arc, pair_word, pair_home}

abbrev pub alt_group : Alt → ℕ
alt_group a = a.group

abbrev pub alt_spot : Alt → ℕ
alt_spot a = a.spot

-- of each alternative the one of the same owner before it; f is the last of each owner before these
abbrev pub befores : (ℕ → ℕ) → ℕ → List Alt → List ℕ
befores f k [] = []
befores f k (a ∷ A) = f a.owner ∷ befores (renewed f a.owner k) (suc k) A

-- what stands open, the last one first: spots, alternatives, the first ones beside those, how deep those are nested
abbrev pub FramesStand : (ℕ → ℕ) → (ℕ → ℕ) → (ℕ → ℕ) → (ℕ → ℕ) → List OpenFrame → Type 0
FramesStand bs hs gs ds [] = Unit {0}
FramesStand bs hs gs ds (f ∷ fs) =
    (bs (length fs) ≡ f.base) × (hs (length fs) ≡ f.home) × (gs (length fs) ≡ f.group) × (ds (length fs) ≡ f.depth)
    × FramesStand bs hs gs ds fs

-- a row and its alternative; a new alternative k of o; a conjunction, of which i stand open
abbrev pub with_row : Memory → ℕ → ℕ → ℕ → ℕ → Memory
with_row M r i x h = stored (stored M r i x) (r + 1) i h

abbrev pub with_alternative : Memory → ℕ → ℕ → ℕ → ℕ → Memory
with_alternative M k o g s = stored (stored (stored (stored (stored M 6 k g) 7 k (M 8 o)) 9 k s) 8 o k) 8 k 0

abbrev pub with_frame : Memory → ℕ → OpenFrame → Memory
with_frame M i f = stored (stored (stored (stored M 10 i f.base) 11 i f.home) 12 i f.group) 13 i f.depth

-- all that was given; k is the next alternative
pub record Held (M : Memory) (x : Out) (k : ℕ) : Type 0 where
  pub arcs : ListedFrom (M 0) 0 (mapped arc_word x.arcs)
  pub homes : ListedFrom (M 1) 0 (mapped home_of_arc x.arcs)
  pub atoms : ListedFrom (M 2) 0 (mapped pair_word x.bears)
  pub atom_homes : ListedFrom (M 3) 0 (mapped pair_home x.bears)
  pub ties : ListedFrom (M 4) 0 (mapped pair_word x.shares)
  pub tie_homes : ListedFrom (M 5) 0 (mapped pair_home x.shares)
  pub groups : ListedFrom (M 6) 1 (mapped alt_group x.alts)
  pub before : ListedFrom (M 7) 1 (befores none_yet 1 x.alts)
  pub spots : ListedFrom (M 9) 1 (mapped alt_spot x.alts)
  pub root : M 9 0 ≡ 0
  pub last : (j : ℕ) → j < k → M 8 j ≡ lasts none_yet 1 x.alts j
