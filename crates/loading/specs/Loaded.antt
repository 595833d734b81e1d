-- The words that a description is loaded as: those of the word layout, with targets by numbers that run through all graphs, and with
-- what saves walking.
-- Assumes nothing: these are definitions.
use Rattle.std.specs.Prelude.{ℕ, suc, ◌+◌, List, [], ◌∷◌, ◌++◌, length}
use Rattle.packing.specs.Packed.{graph_word, tail_word}
use Rattle.theory.specs.Net.{Node, atom, arcs, Graph}
use Rattle.theory.specs.Descr.{Desc, desc, Disjs, end, ◌and◌, Alts, fail, ◌or◌, disjs, alts}
use Rattle.theory.specs.Layout.{nodes_words, words, alts_words}

-- the words of a graph: "node count (at least 1), then each node in order"
abbrev pub extent : Graph → ℕ
extent g = suc (length (nodes_words g))

-- the first word of a loaded graph whose node 0 has the number n
abbrev pub header : ℕ → Graph → ℕ
header n g = graph_word (length g) n (extent g)

-- "An arc is two words: feature 0..65,535, target node.": the target by its number, where node 0 has the number n
abbrev pub moved_arcs : ℕ → List (ℕ × ℕ) → List (ℕ × ℕ)
moved_arcs n [] = []
moved_arcs n (e ∷ l) = (e.0, n + e.1) ∷ moved_arcs n l

abbrev pub moved_node : ℕ → Node → Node
moved_node n (atom a) = atom a
moved_node n (arcs l) = arcs (moved_arcs n l)

-- the nodes of a graph whose node 0 has the number n
abbrev pub moved : ℕ → Graph → Graph
moved n [] = []
moved n (v ∷ vs) = moved_node n v ∷ moved n vs

-- their words: "each node in order: a head, then its arcs"
abbrev pub located : ℕ → Graph → List ℕ
located n g = nodes_words (moved n g)

-- "Put the nodes of all graphs side by side.": how many they are, at every depth
abbrev mutual
  pub nodes_in : Desc → ℕ
  nodes_in (desc g ds) = length g + nodes_all ds

  pub nodes_all : Disjs → ℕ
  nodes_all end = 0
  nodes_all (a and ds) = nodes_any a + nodes_all ds

  pub nodes_any : Alts → ℕ
  nodes_any fail = 0
  nodes_any (d or a) = nodes_in d + nodes_any a

-- how many alternatives there are, at every depth: those of some disjunctions, and those inside of some alternatives
abbrev mutual
  pub alts_in : Desc → ℕ
  alts_in (desc g ds) = alts_all ds

  pub alts_all : Disjs → ℕ
  alts_all end = 0
  alts_all (a and ds) = alts a + alts_any a + alts_all ds

  pub alts_any : Alts → ℕ
  alts_any fail = 0
  alts_any (d or a) = alts_in d + alts_any a

-- a description with the mark x loaded at position p, its nodes numbered from n on in the order of the words, and the marks of its
-- alternatives from y on: those of a disjunction stand together, and then come those inside of its alternatives
abbrev mutual
  pub loaded : ℕ → ℕ → ℕ → ℕ → Desc → List ℕ
  loaded p n x y (desc g ds) = (header n g ∷ located n g) ++ tail_word (disjs ds) x (p + length (words (desc g ds)))
      ∷ loaded_all (p + extent g + 1) (n + length g) y ds

  pub loaded_all : ℕ → ℕ → ℕ → Disjs → List ℕ
  loaded_all p n y end = []
  loaded_all p n y (a and ds) = (alts a ∷ loaded_any (p + 1) n y (y + alts a) a)
      ++ loaded_all (p + suc (length (alts_words a))) (n + nodes_any a) (y + (alts a + alts_any a)) ds

  pub loaded_any : ℕ → ℕ → ℕ → ℕ → Alts → List ℕ
  loaded_any p n x y fail = []
  loaded_any p n x y (d or a) = loaded p n x y d ++ loaded_any (p + length (words d)) (n + nodes_in d) (x + 1) (y + alts_in d) a

-- an input, its nodes numbered from n on: its own mark, which nothing reads, is n, and those of its alternatives come after it
abbrev pub input_loaded : ℕ → ℕ → Desc → List ℕ
input_loaded p n d = loaded p n n (n + 1) d
