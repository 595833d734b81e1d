-- What the contracts of the writer cite. Assumes nothing.
use Rattle.std.specs.Prelude.{◌≡◌, ◌⊎◌, ℕ, suc, ◌+◌, ◌*◌, ◌≤◌, ◌<◌, max, length, get_or}
use mathlib.Core.List.{List, [], Memᴰ}
use Rattle.theory.specs.Net.{Graph, nodeAt, arcsOf, Rising, InOrder, met, Canonical, Joined}
use Rattle.theory.specs.Layout.{arc_words, node_words, nodes_words}
use Rattle.theory.specs.Weight.{weight}
use Rattle.layout.specs.Standing.{Stands, graph_words}
use Rattle.loading.specs.Entry.{Entry, graphs}
use Rattle.area.specs.Map.{LOG, STACK, WORDS, RESULT, TARGETS, LONGEST}
use Rattle.area.specs.Region.{loaded_words}
use Rattle.forest.specs.State.{targets, Chain}
use Rattle.classes.specs.Holds.{Holds, Since}
use Rattle.writing.specs.Classes.{Fan, Classes, Met}

-- ---- what is written where
-- w' is w but for the free part of the log, the stack, and the words of the result from `at` up to at'
pub record Kept (k at at' : ℕ) (w w' : List ℕ) : Type 0 where
  pub len : length w' ≡ length w
  pub more : at ≤ at'
  pub low : (j : ℕ) → j < LOG + k → get_or w' j 0 ≡ get_or w j 0
  pub mid : (j : ℕ) → WORDS ≤ j → j < RESULT + at → get_or w' j 0 ≡ get_or w j 0
  pub high : (j : ℕ) → RESULT + at' ≤ j → get_or w' j 0 ≡ get_or w j 0

-- ---- the arcs of a class
-- of the arc j and best, which counts from 1 or is 0, the one with the least feature from low on
pub data Better (F : List ℕ) (low best j : ℕ) : ℕ → Type 0 where
  under : get_or F j 0 < low → Better F low best j best
  only : low ≤ get_or F j 0 → best ≡ 0 → Better F low best j (suc j)
  less : (i : ℕ) → low ≤ get_or F j 0 → best ≡ suc i → get_or F j 0 < get_or F i 0 → Better F low best j (suc j)
  more : (i : ℕ) → low ≤ get_or F j 0 → best ≡ suc i → get_or F i 0 ≤ get_or F j 0 → Better F low best j best

-- of the arcs of a chain all but those of rest are passed, and best is the one with the least feature from low on
pub record Passed (F : List ℕ) (low : ℕ) (chain rest : List ℕ) (best : ℕ) : Type 0 where
  pub inside : (q : ℕ) → Memᴰ q rest → Memᴰ q chain
  pub one : (q : ℕ) → best ≡ suc q → Memᴰ q chain × (low ≤ get_or F q 0)
  pub all : (q : ℕ) → Memᴰ q chain → low ≤ get_or F q 0 → Memᴰ q rest
      ⊎ ((b : ℕ) × ((best ≡ suc b) × (get_or F b 0 ≤ get_or F q 0)))

-- the arc r, counted from 1, has the least feature from low on of the chain from x; 0 where there is none
pub record LeastArc (w : List ℕ) (x low r : ℕ) : Type 0 where
  pub is : (chain : List ℕ) → Chain w x chain → Passed (loaded_words w) low chain [] r

-- what a number asks: the class c has one, or is the next to get one
pub record Numbering (n k m c : ℕ) (w : List ℕ) : Type 0 where
  pub G : Graph
  pub lab : ℕ → ℕ
  pub ord : List ℕ
  pub classes : Classes n k w G lab ord
  pub met : Met k m ord w
  pub t : ℕ
  pub inside : t < length ord
  pub next : t ≤ m
  pub is : c ≡ get_or ord t 0

-- "a target is either a number already met or the next unused one": the class c has its number, and r classes are met
pub record Numbers (n k m c : ℕ) (w : List ℕ) (r : ℕ) (w' : List ℕ) : Type 0 where
  pub kept : (at : ℕ) → Kept k at at w w'
  pub told : (G : Graph) (lab : ℕ → ℕ) (ord : List ℕ) → Classes n k w G lab ord → Met k m ord w → (t : ℕ) →
      t < length ord → t ≤ m → c ≡ get_or ord t 0
      → Met k r ord w' × ((r ≡ max m (suc t)) × (get_or w' (STACK + c) 0 ≡ suc t))

-- what an arc asks: q is an arc to the node t, which is met or the next
pub record Pointing (n k : ℕ) (w : List ℕ) (q at m : ℕ) : Type 0 where
  pub G : Graph
  pub lab : ℕ → ℕ
  pub ord : List ℕ
  pub classes : Classes n k w G lab ord
  pub marks : Met k m ord w
  pub low : q < TARGETS
  pub inner : get_or (targets w) q 0 < n
  pub t : ℕ
  pub inside : t < length ord
  pub next : t ≤ m
  pub label : lab (get_or (targets w) q 0) ≡ get_or ord t 0
  pub fits : at + 2 ≤ LONGEST

-- "An arc is two words: feature 0..65,535, target node.": they stand in the result
pub record Pointed (n k : ℕ) (w : List ℕ) (q at m m' : ℕ) (w' : List ℕ) : Type 0 where
  pub kept : Kept k at (at + 2) w w'
  pub told : (G : Graph) (lab : ℕ → ℕ) (ord : List ℕ) → Classes n k w G lab ord → Met k m ord w → (t : ℕ) →
      t < length ord → t ≤ m → lab (get_or (targets w) q 0) ≡ get_or ord t 0
      → Met k m' ord w' × ((m' ≡ max m (suc t)) × ((get_or w' (RESULT + at) 0 ≡ get_or (loaded_words w) q 0)
      × (get_or w' (RESULT + at + 1) 0 ≡ t)))

-- what the arcs of a node ask: the chain from x has the arcs l, and there is room for them
pub record Arcing (n k : ℕ) (w : List ℕ) (x at m : ℕ) : Type 0 where
  pub G : Graph
  pub lab : ℕ → ℕ
  pub ord : List ℕ
  pub classes : Classes n k w G lab ord
  pub marks : Met k m ord w
  pub l : List (ℕ × ℕ)
  pub fan : Fan n w lab ord x 0 l
  pub rising : Rising 0 l
  pub order : InOrder m l
  pub fits : at + 2 * length l ≤ LONGEST

-- "Features rise strictly within a node.": the words of all arcs of l stand in the result
pub record Arced (n k : ℕ) (w : List ℕ) (x at m at' m' : ℕ) (w' : List ℕ) : Type 0 where
  pub kept : Kept k at at' w w'
  pub told : (G : Graph) (lab : ℕ → ℕ) (ord : List ℕ) → Classes n k w G lab ord → Met k m ord w → (l : List (ℕ × ℕ)) →
      Fan n w lab ord x 0 l → Rising 0 l → InOrder m l
      → Met k m' ord w' × ((m' ≡ met m l) × Stands w' (RESULT + at) (arc_words l) (RESULT + at'))

-- ---- the nodes
-- what a node asks: its class is met, and there is room for it
pub record NodeWriting (n k : ℕ) (w : List ℕ) (i at m : ℕ) : Type 0 where
  pub G : Graph
  pub lab : ℕ → ℕ
  pub ord : List ℕ
  pub classes : Classes n k w G lab ord
  pub marks : Met k m ord w
  pub below : i < m
  pub rising : Rising 0 (arcsOf (nodeAt G i))
  pub order : InOrder m (arcsOf (nodeAt G i))
  pub fits : at + length (node_words (nodeAt G i)) ≤ LONGEST

-- "a head, then its arcs": the words of the node i stand in the result
pub record NodeWritten (n k : ℕ) (w : List ℕ) (i at m at' m' : ℕ) (w' : List ℕ) : Type 0 where
  pub kept : Kept k at at' w w'
  pub told : (G : Graph) (lab : ℕ → ℕ) (ord : List ℕ) → Classes n k w G lab ord → Met k m ord w → i < m →
      Rising 0 (arcsOf (nodeAt G i)) → InOrder m (arcsOf (nodeAt G i))
      → Met k m' ord w' × ((m' ≡ met m (arcsOf (nodeAt G i))) × Stands w' (RESULT + at) (node_words (nodeAt G i)) (RESULT + at'))

-- what all nodes ask: the class of the root is met, and there is room for them
pub record NodesWriting (n k : ℕ) (w : List ℕ) (at : ℕ) : Type 0 where
  pub G : Graph
  pub lab : ℕ → ℕ
  pub ord : List ℕ
  pub classes : Classes n k w G lab ord
  pub marks : Met k 1 ord w
  pub canonical : Canonical G
  pub fits : at + length (nodes_words G) ≤ LONGEST

-- "then each node in order": the words of all nodes of G stand in the result
pub record NodesWritten (n k : ℕ) (w : List ℕ) (at at' m' : ℕ) (w' : List ℕ) : Type 0 where
  pub kept : Kept k at at' w w'
  pub told : (G : Graph) (lab : ℕ → ℕ) (ord : List ℕ) → Classes n k w G lab ord → Met k 1 ord w → Canonical G
      → (m' ≡ length G) × Stands w' (RESULT + at) (nodes_words G) (RESULT + at')

-- ---- the whole
-- what writing asks: some graphs are pushed, and there is room for their joined graph
pub record Writing (n k : ℕ) (w : List ℕ) (o : ℕ) : Type 0 where
  pub es : List Entry
  pub G : Graph
  pub holds : Holds n es k w
  pub joined : Joined (graphs es) G
  pub room : o + suc (weight G) ≤ LONGEST

-- "Without a clash the classes form the joined graph.": its words stand in the result from o up to r
pub record Writes (n k : ℕ) (w : List ℕ) (o r : ℕ) (w' : List ℕ) : Type 0 where
  pub kept : Kept k o r w w'
  pub told : (es : List Entry) (G : Graph) → Holds n es k w → Joined (graphs es) G
      → (r ≡ o + suc (weight G)) × (Stands w' (RESULT + o) (graph_words G) (RESULT + r) × Holds n es k w')
  pub since : (m : ℕ) (w₀ : List ℕ) → Since m w₀ k w → Since m w₀ k w'
