-- Giving graph nodes their structure nodes: what the functions that do ask, and what they promise.
-- Assumes nothing: these are definitions.
use Rattle.std.specs.Prelude.{ℕ, suc, ◌+◌, ◌*◌, ◌≤◌, ◌<◌, ◌≡◌, length, get_or, Option, Some, None}
use mathlib.Core.List.{List, [], ◌∷◌, Memᴰ}
use Rattle.theory.specs.Limits.{input_limit}
use Rattle.theory.specs.Net.{Node, atom, arcs, Graph, nodeAt, arcsOf, Rising, InOrder, met, Canonical}
use Rattle.fit.specs.Parts.{node_limit, after_node, arcsOfWords, lastArcs, nodeFrom, nodesFrom, nodesEnd, graphIn}
use Rattle.graphs.specs.declared.graph.Walk.{Walk}
use Rattle.fit.specs.declared.sending.Found.{Found}

-- "every arc goes to an arc of the same feature between the given nodes": into the arcs B, where m gives the nodes
abbrev pub SentArcs : List (ℕ × ℕ) → (ℕ → ℕ) → List (ℕ × ℕ) → Type 0
SentArcs B m [] = Unit {0}
SentArcs B m (e ∷ l) = Memᴰ (e.0, m e.1) B × SentArcs B m l

-- "and every atom to the same atom": to the node x of the structure H
abbrev pub Sent : Graph → (ℕ → ℕ) → Node → ℕ → Type 0
Sent H m (atom a) x = nodeAt H x ≡ atom a
Sent H m (arcs l) x = SentArcs (arcsOf (nodeAt H x)) m l

-- "each graph node can be given a structure node": node i, which is v
abbrev pub SentHere : Graph → (ℕ → ℕ) → ℕ → Node → Type 0
SentHere H m i v = (m i < length H) × Sent H m v (m i)

-- the nodes from i on
abbrev pub SentAll : Graph → (ℕ → ℕ) → ℕ → Graph → Type 0
SentAll H m i [] = Unit {0}
SentAll H m i (v ∷ vs) = SentHere H m i v × SentAll H m (suc i) vs

-- m gives the first k nodes what the list gives them
abbrev pub Agrees : List ℕ → ℕ → (ℕ → ℕ) → Type 0
Agrees M k m = (i : ℕ) → i < k → m i ≡ get_or M i 0

-- the maps that agree with M on k nodes and do what P asks are those that agree with M' on k' nodes and do what Q asks
pub record SameMaps (M : List ℕ) (k : ℕ) (P : (ℕ → ℕ) → Type 0) (M' : List ℕ) (k' : ℕ) (Q : (ℕ → ℕ) →
    Type 0) : Type 0 where
  pub onward : (m : ℕ → ℕ) → Agrees M k m → P m → Agrees M' k' m × Q m
  pub back : (m : ℕ → ℕ) → Agrees M' k' m → Q m → Agrees M k m × P m

abbrev pub Turns : List ℕ → ℕ → ((ℕ → ℕ) → Type 0) → List ℕ → ℕ → Type 0
Turns M k P M' k' = SameMaps M k P M' k' (λ m. Unit {0})

-- no map that agrees does what P asks
abbrev pub NoMap : List ℕ → ℕ → ((ℕ → ℕ) → Type 0) → Type 0
NoMap M k P = (m : ℕ → ℕ) → Agrees M k m → P m → ⊥

-- the first k nodes are given numbers below n
abbrev pub GivenBelow : ℕ → List ℕ → ℕ → Type 0
GivenBelow n M k = (i : ℕ) → i < k → get_or M i 0 < n

-- the last k arcs before e are there, and rise
pub record Findable (s : List ℕ) (e k : ℕ) : Type 0 where
  pub room : 2 * k ≤ e
  pub inside : e ≤ length s
  pub rising : Rising 0 (lastArcs s e k)

-- u is the one target of feature f in B, and C has the arcs of higher features
pub record Beyond (B : List (ℕ × ℕ)) (f u : ℕ) (C : List (ℕ × ℕ)) : Type 0 where
  pub here : Memᴰ (f, u) B
  pub one : (t : ℕ) → Memᴰ (f, t) B → t ≡ u
  pub later : (g t : ℕ) → f < g → Memᴰ (g, t) B → Memᴰ (g, t) C
  pub among : (g t : ℕ) → Memᴰ (g, t) C → Memᴰ (g, t) B

-- the arc to u, which j arcs come after
abbrev pub hit : ℕ → ℕ → Option Found
hit u j = Some (record { target = u; left = j })

abbrev pub FindsTarget : List ℕ → ℕ → ℕ → ℕ → Option Found → Type 0
FindsTarget s e k f (Some x) = Findable s e x.left × Beyond (lastArcs s e k) f x.target (lastArcs s e x.left)
FindsTarget s e k f None = (u : ℕ) → Memᴰ (f, u) (lastArcs s e k) → ⊥

-- a node that is known or the next
pub record Sendable (node k : ℕ) : Type 0 where
  pub next : node ≤ k
  pub few : node < node_limit

-- k' nodes are given after what P asks, or no map does it
abbrev pub Steps : List ℕ → ℕ → ((ℕ → ℕ) → Type 0) → ℕ → List ℕ → Option ℕ → Type 0
Steps M k P k' M' (Some j) = (j ≡ k') × Turns M k P M' k'
Steps M k P k' M' None = NoMap M k P

pub record ArcsAsked (s : List ℕ) (e ahead : ℕ) (ws : List ℕ) (p count k : ℕ) : Type 0 where
  pub findable : Findable s e ahead
  pub there : p + 2 * count ≤ length ws
  pub rising : Rising 0 (arcsOfWords ws p count)
  pub order : InOrder k (arcsOfWords ws p count)
  pub few : met k (arcsOfWords ws p count) ≤ node_limit

abbrev pub Sends : List (ℕ × ℕ) → List (ℕ × ℕ) → List ℕ → ℕ → List ℕ → Option ℕ → Type 0
Sends B l M k M' r = Steps M k (λ m. SentArcs B m l) (met k l) M' r

-- a node v, whose words are there, is met
pub record NodeAsked (s ws : List ℕ) (p i : ℕ) (M : List ℕ) (k : ℕ) : Type 0 where
  pub there : after_node ws p ≤ length ws
  pub known : i < k
  pub most : k ≤ node_limit
  pub low : GivenBelow (length (graphIn s 0)) M k
  pub rising : Rising 0 (arcsOf (nodeFrom ws p))
  pub order : InOrder k (arcsOf (nodeFrom ws p))
  pub few : met k (arcsOf (nodeFrom ws p)) ≤ node_limit

abbrev pub Walks : Graph → List ℕ → ℕ → ℕ → List ℕ → ℕ → List ℕ → Option Walk → Type 0
Walks H ws p i M k M' (Some w) =
    (w.next ≡ after_node ws p) × (w.met ≡ met k (arcsOf (nodeFrom ws p))) × Turns M k (λ m. SentHere H m i (nodeFrom ws p)) M' w.met
Walks H ws p i M k M' None = NoMap M k (λ m. SentHere H m i (nodeFrom ws p))

-- k nodes whose words are there, of which the root is given a structure node
pub record NodesAsked (s ws : List ℕ) (p k : ℕ) (M : List ℕ) : Type 0 where
  pub few : length ws ≤ input_limit
  pub there : nodesEnd ws p k ≤ length ws
  pub canonical : Canonical (nodesFrom ws p k)
  pub root : GivenBelow (length (graphIn s 0)) M 1

abbrev pub SentNodes : Graph → List ℕ → ℕ → ℕ → List ℕ → Option ℕ → Type 0
SentNodes H ws p k M (Some q) = (q ≡ nodesEnd ws p k) × ((m : ℕ → ℕ) × Agrees M 1 m × SentAll H m 0 (nodesFrom ws p k))
SentNodes H ws p k M None = NoMap M 1 (λ m. SentAll H m 0 (nodesFrom ws p k))

-- a node, whose words are there
abbrev pub NodeStands : List ℕ → ℕ → Node → Type 0
NodeStands s p v = (after_node s p ≤ length s) × (nodeFrom s p ≡ v)

-- a structure, whose words are there
pub record Notable (s : List ℕ) : Type 0 where
  pub few : length s ≤ input_limit
  pub some : 0 < length s
  pub canonical : Canonical (graphIn s 0)
  pub there : nodesEnd s 1 (get_or s 0 0) ≤ length s

-- and P tells where its nodes stand
pub record Noted (s P : List ℕ) : Type 0 where
  pub few : length (graphIn s 0) ≤ node_limit
  pub canonical : Canonical (graphIn s 0)
  pub noted : (x : ℕ) → x < length (graphIn s 0) → NodeStands s (get_or P x 0) (nodeAt (graphIn s 0) x)
