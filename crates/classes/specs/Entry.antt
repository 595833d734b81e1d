-- Graphs as they lie in the loaded words, and when one may be pushed on others. Assumes nothing.
use Rattle.std.specs.Prelude.{◌≡◌, ◌⊎◌, ℕ, suc, ◌+◌, ◌*◌, ◌≤◌, ◌<◌, length, get_or}
use Rattle.std.proofs.Common.{inl, inr}
use mathlib.Core.List.{List, [], ◌∷◌, ◌++◌, Memᴰ}
use Rattle.packing.specs.Packed.{number_step, graph_word}
use Rattle.area.specs.Map.{WORDS, LOADED, ENTRIES}
use Rattle.loading.specs.Entry.{Entry, graphs}
use Rattle.loading.specs.Loaded.{located}
use Rattle.theory.specs.Net.{Graph, beside, Canonical}
use Rattle.theory.specs.Layout.{GraphFits}
use Rattle.theory.specs.Weight.{weight, weights}

-- "Put the nodes of all graphs side by side.": a node of one of the graphs, and its number
abbrev pub Spots : List Entry → Type 0
Spots es = (beside (graphs es)).Spot

abbrev pub spot_number : (es : List Entry) → Spots es → ℕ
spot_number (e ∷ es) (inl x) = e.number + x.0
spot_number (e ∷ es) (inr y) = spot_number es y
spot_number [] x' = elim x' [ ]

-- the graph K lies in the words of w: at g its header, after it its nodes, the first of which has the number n
pub record Lies (w : List ℕ) (g n : ℕ) (K : Graph) : Type 0 where
  pub fits : g + suc (weight K) ≤ LOADED
  pub few : length K < number_step
  pub low : n < number_step
  pub head : get_or w (WORDS + g) 0 ≡ graph_word (length K) n (suc (weight K))
  pub nodes : (j : ℕ) → j < weight K → get_or w (WORDS + (suc g + j)) 0 ≡ get_or (located n K) j 0

-- two graphs that share no number and no word
abbrev pub Aside : Entry → Entry → Type 0
Aside e o =
    ((e.number + length e.graph ≤ o.number) ⊎ (o.number + length o.graph ≤ e.number))
    × ((e.at + suc (weight e.graph) ≤ o.at) ⊎ (o.at + suc (weight o.graph) ≤ e.at))

-- e may be pushed where the graphs es are: there are n numbers
pub record Comes (n : ℕ) (es : List Entry) (e : Entry) (w : List ℕ) : Type 0 where
  pub lies : Lies w e.at e.number e.graph
  pub canonical : Canonical e.graph
  pub fits : GraphFits e.graph
  pub inside : e.number + length e.graph ≤ n
  pub aside : (o : Entry) → Memᴰ o es → Aside e o
  pub room : 3 * n + weights (graphs es ++ e.graph ∷ []) ≤ ENTRIES
