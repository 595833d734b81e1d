-- When two graphs are one but for the numbers of their nodes.
-- Assumes nothing: these are definitions.
use Rattle.std.specs.Prelude.{◌≡◌, ◌↔◌, ℕ}
use Rattle.theory.specs.Net.{Graph, Net, graph}

-- each spot of one net has one of the other, and back; the given spots have the same roots, atoms and arcs
pub record Isomorphism (N M : Net) : Type 0 where
  pub to : N.Spot → M.Spot
  pub from : M.Spot → N.Spot
  pub from_to : (x : N.Spot) → from (to x) ≡ x
  pub to_from : (y : M.Spot) → to (from y) ≡ y
  pub root_kept : (x : N.Spot) → N.Root x ↔ M.Root (to x)
  pub atom_kept : (x : N.Spot) (a : ℕ) → N.Atom x a ↔ M.Atom (to x) a
  pub arc_kept : (x : N.Spot) (f : ℕ) (y : N.Spot) → N.Arc x f y ↔ M.Arc (to x) f (to y)

-- "So a graph has one image only": that two graphs are one, told without their numbers
abbrev pub Isomorphic : Graph → Graph → Type 0
Isomorphic g h = Isomorphism (graph g) (graph h)
