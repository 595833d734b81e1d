-- Atoms by label, and clashes.
-- Assumes nothing: these are definitions.
use Rattle.std.specs.Prelude.{◌≡◌, ◌⊎◌, ◌≢◌, Bool, true, false, Result, Ok, Err, Some, None, ⊤, ℕ, zero, suc, ◌<◌, ◌≤◌, length, get_or}
use Rattle.std.specs.Prelude as rust
use Rattle.std.proofs.Math.Option.{Option, none, some}
use mathlib.Core.List.{List, Memᴰ}
use Rattle.theory.specs.Net.{Node, atom, arcs}
use Rattle.theory.specs.Join.{atom_of}
use Rattle.closing.specs.Rows.{spot_limit, mark_limit, in_pairs}
use Rattle.closing.specs.Labels.{lab_of}
use Rattle.closing.specs.declared.bearing.Clash.{Clash}

-- an atom, if there is one
abbrev pub held_of : Option ℕ → rust.Option ℕ
held_of none = None
held_of (some a) = Some a

-- a node that holds no atom has arcs
abbrev pub held_node : rust.Option ℕ → List (ℕ × ℕ) → Node
held_node None l = arcs l
held_node (Some a) l = atom a

-- the atoms of some pairs stand by label in B; no label has two, and none has an atom and a list of arcs
pub record Borne (L H : List ℕ) (pairs : List (ℕ × ℕ)) (B : List (rust.Option ℕ)) : Type 0 where
  pub len : length B ≡ spot_limit
  pub held : (l : ℕ) → l < spot_limit → get_or B l None ≡ held_of (atom_of (lab_of L) l pairs)
  pub small : (l a : ℕ) → get_or B l None ≡ Some a → a < mark_limit
  pub one : (p q : ℕ × ℕ) → Memᴰ p pairs → Memᴰ q pairs → lab_of L p.0 ≡ lab_of L q.0 → p.1 ≡ q.1
  pub bare : (p : ℕ × ℕ) → Memᴰ p pairs → get_or H (lab_of L p.0) 0 ≡ 0

-- a pair whose label has arcs, or another atom
pub record Struck (L H : List ℕ) (pairs : List (ℕ × ℕ)) : Type 0 where
  pub pair : ℕ × ℕ
  pub there : Memᴰ pair pairs
  pub against : (get_or H (lab_of L pair.0) 0 ≢ 0)
      ⊎ ((q : ℕ × ℕ) × Memᴰ q pairs × (lab_of L pair.0 ≡ lab_of L q.0) × (pair.1 ≢ q.1))

pub record AtomsBearing (L : List ℕ) (B : List (rust.Option ℕ)) : Type 0 where
  pub len : length L ≡ spot_limit
  pub low : (i : ℕ) → i < spot_limit → lab_of L i < spot_limit
  pub wide : length B ≡ spot_limit
  pub clear : (l : ℕ) → get_or B l None ≡ None

pub record AtomsBorne (L H atoms : List ℕ) (clash : Bool) (B : List (rust.Option ℕ)) : Type 0 where
  pub calm : clash ≡ false → Borne L H (in_pairs atoms) B
  pub struck : clash ≡ true → Struck L H (in_pairs atoms)

-- whether an answer is a clash
abbrev pub clashed : Result ⊤ Clash → Bool
clashed (Ok x) = false
clashed (Err e) = true

-- the test of one label
pub record Against (held : rust.Option ℕ) (given : ℕ) (r : Bool) : Type 0 where
  pub other : r ≡ true → (a : ℕ) × (held ≡ Some a) × (a ≢ given)
  pub fine : r ≡ false → (a : ℕ) → held ≡ Some a → a ≡ given
