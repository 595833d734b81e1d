-- What copying a graph as it was loaded asks, and what then stands in the result.
-- Assumes nothing: these are definitions.
use Rattle.std.specs.Prelude.{ℕ, ◌+◌, ◌≤◌, ◌≡◌, List, length}
use Rattle.theory.specs.Net.{Node, Graph}
use Rattle.theory.specs.Layout.{arc_words, node_words, nodes_words}
use Rattle.area.specs.Map.{RESULT, SIZE, LOADED, LONGEST}
use Rattle.area.specs.Region.{loaded_words}
use Rattle.layout.specs.Standing.{Stands, graph_words}
use Rattle.engine.specs.Placed.{own}
use Rattle.loading.specs.Loaded.{moved_arcs, moved_node, located}
use Rattle.loading.specs.Loading.{Put}
use Rattle.marks.specs.Readable.{Readable}

-- a kind of thing: when it may come, its words, and what they are loaded as where node 0 has a number
pub record Piece : Type 1 where
  pub Thing : Type 0
  pub Fine : Thing → Type 0
  pub text : Thing → List ℕ
  pub image : ℕ → Thing → List ℕ

-- k arcs
abbrev pub arcs_piece : ℕ → Piece
arcs_piece k = record {
  Thing = List (ℕ
      × ℕ);
  Fine = λ l. length l ≡ k;
  text = arc_words;
  image = λ n l. arc_words (moved_arcs n l);
}

abbrev pub node_piece : Piece
node_piece = record { Thing = Node; Fine = λ v. Unit {0}; text = node_words; image = λ n v. node_words (moved_node n v) }

-- k nodes
abbrev pub nodes_piece : ℕ → Piece
nodes_piece k = record { Thing = Graph; Fine = λ g. length g ≡ k; text = nodes_words; image = located }

-- a thing of the kind stands loaded at p, and there is room for its words at o
pub record Copying (K : Piece) (w : List ℕ) (number p o : ℕ) : Type 0 where
  pub long : SIZE ≤ length w
  pub x : K.Thing
  pub fine : K.Fine x
  pub q : ℕ
  pub within : p ≤ LOADED
  pub stands : Stands (loaded_words w) p (K.image number x) q
  pub room : o + length (K.text x) ≤ LONGEST

-- its words stand in the result, and no other word has changed
abbrev pub Copies : (K : Piece) (w : List ℕ) (number p o r : ℕ) (w' : List ℕ) → Type 0
Copies K w number p o r w' = (c : Copying K w number p o) → Put w w' (RESULT + o) (K.text c.x) (RESULT + r)

-- the graph of a description, by itself
pub record Graphing (w : List ℕ) (g o : ℕ) : Type 0 where
  pub left : ℕ
  pub read : Readable w g left
  pub room : o + length (graph_words (own read.lies.d)) ≤ LONGEST

abbrev pub Graphs : (w : List ℕ) (g o r : ℕ) (w' : List ℕ) → Type 0
Graphs w g o r w' = (c : Graphing w g o) → Put w w' (RESULT + o) (graph_words (own c.read.lies.d)) (RESULT + r)
