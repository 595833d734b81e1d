-- Known inputs: at which node they clash.
-- Assumes nothing.
use mathlib.Core.Path.{◌≡◌, refl}
use mathlib.Core.Option.{Option, none, some}
use mathlib.Core.List.{List, [], ◌∷◌, map}
use Prim.Native.Nat.{ℕ}
use Rattle.theory.specs.Net.{Graph, atom, arcs, Agree}
use Rattle.theory.specs.ClashNode.{ClashNode}
use Rattle.theory.specs.Located.{clash_node?}
use Rattle.theory.proofs.Somewhere.{located_iff, agree_iff}

-- A, B, E and L of document 01, and the graph of an atom alone
abbrev gA : Graph
gA = arcs ((1, 1) ∷ []) ∷ atom 10 ∷ []

abbrev gB : Graph
gB = arcs ((1, 1) ∷ []) ∷ atom 11 ∷ []

abbrev gE : Graph
gE = arcs ((1, 1) ∷ (2, 1) ∷ []) ∷ arcs [] ∷ []

abbrev gL : Graph
gL = arcs ((1, 0) ∷ []) ∷ []

abbrev g10 : Graph
g10 = atom 10 ∷ []

-- under features 1 and 2 two values, and under 3 of each another atom
abbrev apart : Graph
apart = arcs ((1, 1) ∷ (2, 2) ∷ []) ∷ arcs ((3, 3) ∷ []) ∷ arcs ((3, 4) ∷ []) ∷ atom 10 ∷ atom 11 ∷ []

-- features 1 and 2 share a value, and 4 is atom 12; 4 is atom 13, and 1 and 2 have other atoms
abbrev shared : Graph
shared = arcs ((1, 1) ∷ (2, 1) ∷ (4, 2) ∷ []) ∷ arcs [] ∷ atom 12 ∷ []

abbrev split : Graph
split = arcs ((1, 1) ∷ (2, 2) ∷ (4, 3) ∷ []) ∷ atom 10 ∷ atom 11 ∷ atom 13 ∷ []

-- 3 leads back to the root, from where 1 is atom 10 and 2 is atom 11; 2 is atom 12, and under 3 the feature 1 is atom 13
abbrev turning : Graph
turning = arcs ((1, 1) ∷ (2, 2) ∷ (3, 0) ∷ []) ∷ atom 10 ∷ atom 11 ∷ []

abbrev onward : Graph
onward = arcs ((2, 1) ∷ (3, 2) ∷ []) ∷ atom 12 ∷ arcs ((1, 3) ∷ []) ∷ atom 13 ∷ []

pub record Told : Type 0 where
  pub first : Graph
  pub second : Graph
  pub node : Option ℕ

told : Graph → Graph → Option ℕ → Told
told g h o = record { first = g; second = h; node = o }

pub inputs : List Told
inputs =
    -- A with B: node 1
    told gA gB (some 1)
    -- L with an atom, an atom with L: node 0
    ∷ told gL g10 (some 0)
    ∷ told g10 gL (some 0)
    -- E with A agree, and A with A
    ∷ told gE gA none
    ∷ told gA gA none
    -- no node of the first graph is in the class that clashes: node 3 of the second, counted after two
    ∷ told gE apart (some 5)
    ∷ told apart gE (some 3)
    -- two classes clash, and the smaller node counts
    ∷ told shared split (some 1)
    ∷ told split shared (some 1)
    -- node 2 clashes at once, node 1 only when node 2 of the second graph is found equal to the root
    ∷ told turning onward (some 1)
    ∷ told onward turning (some 1)
    ∷ []

pub clash_cases : map (λ (c : Told). clash_node? c.first c.second) inputs ≡ map (λ (c : Told). c.node) inputs
unfolding inputs told clash_node?
clash_cases = refl

-- so these are the nodes
pub A_with_B : ClashNode gA gB 1
unfolding clash_node?
A_with_B = (located_iff gA gB 1).0 refl

pub L_with_atom : ClashNode gL g10 0
unfolding clash_node?
L_with_atom = (located_iff gL g10 0).0 refl

pub second_graph : ClashNode gE apart 5
unfolding clash_node?
second_graph = (located_iff gE apart 5).0 refl

pub E_with_A : Agree (gE ∷ gA ∷ [])
unfolding clash_node?
E_with_A = (agree_iff gE gA).0 refl
