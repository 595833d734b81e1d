-- The atoms' heads of a loaded graph are taken out, and the heads of its nodes kept aside.
-- Assumes nothing: these are definitions.
use Rattle.std.specs.Prelude.{◌≡◌, ◌⊎◌, List, [], ◌∷◌, ℕ, ◌+◌, ◌≤◌, ◌<◌, length, get_or}
use Rattle.theory.specs.Limits.{code_limit}
use Rattle.theory.specs.Net.{Node, atom, arcs, Graph, nodeAt}
use Rattle.theory.specs.Layout.{nodes_words, NodeFits, GraphFits}
use Rattle.layout.specs.Standing.{Stands}
use Rattle.area.specs.Map.{NODES, MARKS, SIZE}
use Rattle.finding_clash.specs.Bared.{bared}

-- "Head 0..65,535 is the number of arcs; head 65,536..131,071 is the atom numbered head - 65,536, with no arcs."
abbrev pub head_of : Node → ℕ
head_of (atom a) = code_limit + a
head_of (arcs l) = length l

-- w' is w with the atoms taken out of the nodes g, which stand from p up to q, and with their heads from MARKS + i on
pub record BaredAs (g : Graph) (w : List ℕ) (p q i : ℕ) (w' : List ℕ) : Type 0 where
  pub len : length w' ≡ length w
  pub stands : Stands w' p (nodes_words (bared g)) q
  pub heads : (j : ℕ) → j < length g → get_or w' (MARKS + (i + j)) 0 ≡ head_of (nodeAt g j)
  pub rest : (j : ℕ) → (j < p) ⊎ (q ≤ j) → (j < MARKS + i) ⊎ (MARKS + (i + length g) ≤ j) → get_or w' j 0 ≡ get_or w j 0

-- what taking the atom out of a node at p asks: one stands there
pub record NodeBaring (w : List ℕ) (p i : ℕ) : Type 0 where
  pub long : SIZE ≤ length w
  pub few : i < NODES
  pub v : Node
  pub q : ℕ
  pub fits : NodeFits v
  pub near : q ≤ MARKS
  pub stands : Stands w p (nodes_words (v ∷ [])) q

-- and what it promises: whatever node stands there ends at r and has no atom any more
pub record NodeBares (w : List ℕ) (p i r : ℕ) (w' : List ℕ) : Type 0 where
  pub len : length w' ≡ length w
  pub told : (v : Node) (q : ℕ) → NodeFits v → q ≤ MARKS → Stands w p (nodes_words (v ∷ [])) q →
      (r ≡ q) × BaredAs (v ∷ []) w p q i w'

-- the same for the `count` nodes from p on
pub record Baring (w : List ℕ) (p count i : ℕ) : Type 0 where
  pub long : SIZE ≤ length w
  pub few : i + count ≤ NODES
  pub g : Graph
  pub q : ℕ
  pub many : length g ≡ count
  pub fits : GraphFits g
  pub near : q ≤ MARKS
  pub stands : Stands w p (nodes_words g) q

pub record Bares (w : List ℕ) (p count i : ℕ) (w' : List ℕ) : Type 0 where
  pub len : length w' ≡ length w
  pub told : (g : Graph) (q : ℕ) → length g ≡ count → GraphFits g → q ≤ MARKS → Stands w p (nodes_words g) q →
      BaredAs g w p q i w'
