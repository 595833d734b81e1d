-- Known sheets, by computation: NIL's, a clash of two atoms, and a tie that makes a cycle.
-- Assumes nothing.
use mathlib.Core.Path.{◌≡◌, refl}
use mathlib.Core.Option.{Option, none, some}
use mathlib.Core.List.{List, [], ◌∷◌}
use Prim.Native.Nat.{ℕ}
use Rattle.theory.specs.Net.{Graph}
use Rattle.layout.specs.Standing.{graph_words}
use Rattle.formulas.specs.Sheet.{sheet_graph}
use Rattle.closing.specs.Rows.{in_sheet}

abbrev words_of : Option Graph → List ℕ
words_of none = []
words_of (some G) = graph_words G

pub nil_drawn : words_of (sheet_graph (in_sheet [] [] [] [])) ≡ 1 ∷ 0 ∷ []
unfolding sheet_graph
nil_drawn = refl

pub atoms_clash : sheet_graph (in_sheet [] [] (10240 ∷ 14336 ∷ []) []) ≡ none
unfolding sheet_graph
atoms_clash = refl

-- the root has feature 3 to spot 1, which is tied to the root
pub cycle_drawn : words_of (sheet_graph (in_sheet (6144 ∷ []) (1 ∷ []) [] (2048 ∷ []))) ≡ 1 ∷ 1 ∷ 3 ∷ 0 ∷ []
unfolding sheet_graph
cycle_drawn = refl
