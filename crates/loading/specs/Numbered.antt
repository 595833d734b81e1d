-- The placed description that a loaded one is: the name of an alternative is the number of its mark.
-- Assumes nothing: these are definitions.
use Rattle.std.specs.Prelude.{ℕ, suc, ◌+◌, ◌≤◌, ◌<◌}
use mathlib.Core.List.{List, Memᴰ}
use Rattle.theory.specs.Descr.{Desc, desc, Disjs, end, ◌and◌, Alts, fail, ◌or◌, alts}
use Rattle.engine.specs.Placed.{Placed, place, Places, stop, ◌also◌, Options, no_more, option}
use Rattle.loading.specs.Loaded.{alts_in, alts_any}

-- the marks of the alternatives are numbered from y on: those of a disjunction stand together, and then come those inside of its
-- alternatives; of some alternatives the first has the mark x
abbrev mutual
  pub numbered : ℕ → Desc → Placed
  numbered y (desc g ds) = place g (numbered_all y ds)

  pub numbered_all : ℕ → Disjs → Places
  numbered_all y end = stop
  numbered_all y (a and ds) = numbered_any y (y + alts a) a also numbered_all (y + (alts a + alts_any a)) ds

  pub numbered_any : ℕ → ℕ → Alts → Options
  numbered_any x y fail = no_more
  numbered_any x y (d or a) = option x (numbered y d) (numbered_any (x + 1) (y + alts_in d) a)

-- an input, its nodes numbered from n on
abbrev pub input_numbered : ℕ → Desc → Placed
input_numbered n d = numbered (n + 1) d

-- "the number of disjunctions"
abbrev pub places : Places → ℕ
places stop = 0
places (a also ds) = suc (places ds)

-- "number of alternatives"
abbrev pub options : Options → ℕ
options no_more = 0
options (option x d a) = suc (options a)

-- all numbers of a list are from n on, and below m
abbrev pub Between : ℕ → ℕ → List ℕ → Type 0
Between n m l = (y : ℕ) → Memᴰ y l → (n ≤ y) × (y < m)
