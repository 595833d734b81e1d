-- What the area stands for: the graphs that are pushed, and what is remembered since a mark. Assumes nothing.
use Rattle.std.specs.Prelude.{◌≡◌, Bool, true, false, ◌⊎◌, ℕ, suc, ◌+◌, ◌*◌, ◌≤◌, ◌<◌, length, get_or, Option, Some, None}
use mathlib.Core.List.{List, [], ◌∷◌, ◌++◌, Memᴰ}
use Rattle.area.specs.Map.{WORDS, MARKS, SIZE, NODES, ENTRIES}
use Rattle.theory.specs.Limits.{code_limit}
use Rattle.theory.specs.Net.{Node, atom, arcs, nodeAt, arcsOf, Canonical, Clash}
use Rattle.theory.specs.Layout.{GraphFits}
use Rattle.theory.specs.Weight.{weight, weights}
use Rattle.area.specs.Log.{body, past, Logged, Later}
use Rattle.area.specs.Region.{loaded_words}
use Rattle.forest.specs.State.{targets, Pile, Done, State, Full}
use Rattle.loading.specs.Entry.{Entry, graphs}
use Rattle.classes.specs.Entry.{Lies, Aside, Comes}

-- an atom's head, or 0
abbrev pub code : Node → ℕ
code (atom a) = code_limit + a
code (arcs l) = 0

-- an arc of one of the graphs es: at q of the words, from the number s to the number t under the feature f
pub record ArcOf (es : List Entry) (q s f t : ℕ) : Type 0 where
  pub e : Entry
  pub one : Memᴰ e es
  pub j : ℕ
  pub below : j < length e.graph
  pub to : ℕ
  pub inner : to < length e.graph
  pub arc : Memᴰ (f, to) (arcsOf (nodeAt e.graph j))
  pub source : s ≡ e.number + j
  pub target : t ≡ e.number + to
  pub after : e.at < q
  pub before : q < e.at + suc (weight e.graph)

-- a node of one of the graphs es
pub record NodeIn (es : List Entry) (i : ℕ) : Type 0 where
  pub e : Entry
  pub one : Memᴰ e es
  pub j : ℕ
  pub below : j < length e.graph
  pub is : i ≡ e.number + j

-- G is what the graphs es say, and 0 is a root
pub record Tied (F T : List ℕ) (es : List Entry) (G : Pile) : Type 0 where
  pub some : (e : Entry) → Memᴰ e es → 0 < length e.graph
  pub anchor : Memᴰ 0 G.R
  pub root : (e : Entry) → Memᴰ e es → Memᴰ e.number G.R
  pub roots : (x : ℕ) → Memᴰ x G.R → (x ≡ 0) ⊎ ((e : Entry) × (Memᴰ e es × (x ≡ e.number)))
  pub node : (e : Entry) → Memᴰ e es → (j : ℕ) → j < length e.graph →
      Memᴰ (e.number + j) G.N × (G.A (e.number + j) ≡ code (nodeAt e.graph j))
  pub nodes : (i : ℕ) → Memᴰ i G.N → NodeIn es i
  pub arc : (e : Entry) → Memᴰ e es → (j f t : ℕ) → j < length e.graph →
      Memᴰ (f, t) (arcsOf (nodeAt e.graph j))
      → (q : ℕ) × (Memᴰ q G.B × ((G.S q ≡ e.number + j) × ((get_or F q 0 ≡ f) × (get_or T q 0 ≡ e.number + t))))
  pub arcs : (q : ℕ) → Memᴰ q G.B → ArcOf es q (G.S q) (get_or F q 0) (get_or T q 0)

-- no two of the graphs share a number or a word
abbrev pub EntriesApart : List Entry → Type 0
EntriesApart [] = Unit {0}
EntriesApart (e ∷ es) = ((o : Entry) → Memᴰ o es → Aside e o) × EntriesApart es

-- the graph of e lies in the words of w as a graph does, and its numbers are below n
pub record Sits (n : ℕ) (w : List ℕ) (e : Entry) : Type 0 where
  pub lies : Lies w e.at e.number e.graph
  pub canonical : Canonical e.graph
  pub fits : GraphFits e.graph
  pub inside : e.number + length e.graph ≤ n

-- w, with k entries in its log, stands for the graphs es, whose numbers are below n
pub record Holds (n : ℕ) (es : List Entry) (k : ℕ) (w : List ℕ) : Type 0 where
  pub long : SIZE ≤ length w
  pub below : n ≤ NODES
  pub G : Pile
  pub H : Done
  pub state : State G H (loaded_words w) (targets w) n k 0 [] w
  pub full : Full G H
  pub top : full.root ≡ 0
  pub tied : Tied (loaded_words w) (targets w) es G
  pub apart : EntriesApart es
  pub each : (e : Entry) → Memᴰ e es → Sits n w e
  pub count : 2 * length H.K + length H.U ≤ weights (graphs es)

-- w with k entries remembers what w₀ with m entries was; what stands from MARKS on is free
pub record Since (m : ℕ) (w₀ : List ℕ) (k : ℕ) (w : List ℕ) : Type 0 where
  pub len : length w ≡ length w₀
  pub more : m ≤ k
  pub few : k ≤ ENTRIES
  pub began : Logged m w₀
  pub logged : Logged k w
  pub keeps : (i : ℕ) → i ≤ m → past i k w ≡ past i m w₀
  pub same : (j : ℕ) → WORDS ≤ j → j < MARKS → get_or w j 0 ≡ get_or w₀ j 0

-- what `push` asks: some graphs are there, and one comes whose header is at g
pub record Pushing (n k : ℕ) (w : List ℕ) (g : ℕ) : Type 0 where
  pub es : List Entry
  pub e : Entry
  pub is : e.at ≡ g
  pub holds : Holds n es k w
  pub comes : Comes n es e w

-- what `add` asks: the same, by the header's parts
pub record Adding (n k : ℕ) (w : List ℕ) (g base c : ℕ) : Type 0 where
  pub es : List Entry
  pub e : Entry
  pub is : e.at ≡ g
  pub number : e.number ≡ base
  pub many : length e.graph ≡ c
  pub holds : Holds n es k w
  pub comes : Comes n es e w

pub record Adds (n k : ℕ) (w : List ℕ) (g base c k' : ℕ) (bad : Bool) (w' : List ℕ) : Type 0 where
  pub later : Later k w k' w'
  pub fine : bad ≡ false → (es : List Entry) (e : Entry) → e.at ≡ g → e.number ≡ base → length e.graph ≡ c →
      Holds n es k w → Comes n es e w → Holds n (es ++ e ∷ []) k' w'
  pub clash : bad ≡ true → (es : List Entry) (e : Entry) → e.at ≡ g → e.number ≡ base → length e.graph ≡ c →
      Holds n es k w → Comes n es e w → Clash (graphs es ++ e.graph ∷ [])

-- the graph is in, or it clashes with those that are there and all is as it was: told exactly
pub record Pushes (n k : ℕ) (w : List ℕ) (g : ℕ) (r : Option ℕ) (w' : List ℕ) : Type 0 where
  pub len : length w' ≡ length w
  pub rest : (j : ℕ) → WORDS ≤ j → get_or w' j 0 ≡ get_or w j 0
  pub inside : (k' : ℕ) → r ≡ Some k' →
      Since k w k' w'
      × ((es : List Entry) (e : Entry) → e.at ≡ g → Holds n es k w → Comes n es e w → Holds n (es ++ e ∷ []) k' w')
  pub clashed : r ≡ None → (Since k w k w' × (body w' ≡ body w))
      × ((es : List Entry) (e : Entry) → e.at ≡ g → Holds n es k w →
      Comes n es e w → Clash (graphs es ++ e.graph ∷ []) × Holds n es k w')

-- what `back` asks: something is remembered
pub record Remembers (m k : ℕ) (w : List ℕ) : Type 0 where
  pub w₀ : List ℕ
  pub since : Since m w₀ k w

-- back at a mark, the area stands for what it stood for there
pub record Backs (m k : ℕ) (w w' : List ℕ) : Type 0 where
  pub len : length w' ≡ length w
  pub rest : (j : ℕ) → WORDS ≤ j → get_or w' j 0 ≡ get_or w j 0
  pub since : (w₀ : List ℕ) → Since m w₀ k w → Since m w₀ m w'
  pub holds : (n : ℕ) (es : List Entry) (w₀ : List ℕ) → Holds n es m w₀ → Since m w₀ k w → Holds n es m w'

-- all that is pushed can be taken back: the log runs since nothing was
pub record Undoable (n k : ℕ) (w : List ℕ) : Type 0 where
  pub w₀ : List ℕ
  pub empty : Holds n [] 0 w₀
  pub since : Since 0 w₀ k w

-- nothing is pushed
pub record Starts (w w' : List ℕ) : Type 0 where
  pub len : length w' ≡ length w
  pub rest : (j : ℕ) → WORDS ≤ j → get_or w' j 0 ≡ get_or w j 0
  pub holds : (n : ℕ) → n ≤ NODES → Holds n [] 0 w'

-- what `class_of` asks: some graphs are there
pub record Labelled (n : ℕ) (w : List ℕ) : Type 0 where
  pub k : ℕ
  pub es : List Entry
  pub holds : Holds n es k w

-- the class of a number, where graphs are pushed
abbrev pub class : {n : ℕ} {es : List Entry} {k : ℕ} {w : List ℕ} → Holds n es k w → ℕ → ℕ
class h x = get_or h.state.M x 0

pub record Classed (n : ℕ) (w : List ℕ) (x r : ℕ) : Type 0 where
  pub is : (es : List Entry) (k : ℕ) (h : Holds n es k w) → r ≡ class h x
