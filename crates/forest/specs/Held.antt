-- What a class holds, by its word in the area. Assumes nothing: these are definitions.
use Rattle.std.specs.Prelude.{ℕ, zero, suc, ◌+◌, ◌≤◌, ◌<◌, ◌≡◌, Bool, true, false, ◌⊎◌, List, ltb, get_or}
use Rattle.area.specs.Map.{HELD}
use Rattle.forest.specs.declared.held.Held.{Held}
use Rattle.forest.specs.declared.held.Held.TheVariants.{Nothing, Arcs, Atom}

-- the code of an arc, which is counted from 1, is this at most, and an atom's head is above it
abbrev pub last_arc : ℕ
last_arc = 2048

-- x is the code of a chain: 0, or its first arc
abbrev pub ChainCode : ℕ → Type 0
ChainCode x = x ≤ last_arc

-- x is an atom's head
abbrev pub AtomCode : ℕ → Type 0
AtomCode x = last_arc < x

-- what a code stands for
unfoldable pub held : ℕ → Held
held zero = Nothing
held (suc j) = elim (ltb last_arc (suc j)) [ true ↦ Atom (suc j) | false ↦ Arcs (suc j) ]

-- what the class c holds
unfoldable pub held_by : List ℕ → ℕ → Held
held_by w c = held (get_or w (HELD + c) 0)

-- whether that is an atom
abbrev pub bears : Held → Bool
bears Nothing = false
bears (Arcs x) = false
bears (Atom v) = true

-- a class that holds `there` holds what comes: nothing comes, or the same atom
abbrev pub Covered : Held → Held → Type 0
Covered came there = (came ≡ Nothing) ⊎ ((v : ℕ) × ((came ≡ Atom v) × (there ≡ Atom v)))
