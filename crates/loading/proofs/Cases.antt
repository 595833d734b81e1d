-- The known input P as it is loaded: the second of two inputs, at 1,024 with numbers from 5 on. Its two
-- alternatives have the marks 6 and 7.
-- Assumes nothing.
use Prim.Native.Nat.{ℕ, ◌+◌, ◌*◌}
use mathlib.Core.Path.{◌≡◌, refl}
use mathlib.Core.List.{[], ◌∷◌}
use Rattle.theory.specs.Net.{Graph, atom, arcs}
use Rattle.theory.specs.Descr.{Desc, desc, end, ◌and◌, fail, ◌or◌}
use Rattle.theory.specs.Layout.{words}
use Rattle.theory.specs.Known.{P}
use Rattle.packing.specs.Packed.{tail_word}
use Rattle.loading.specs.Loaded.{input_loaded}

-- feature 1 is this atom
abbrev says : ℕ → Graph
says a = arcs ((1, 1) ∷ []) ∷ atom a ∷ []

abbrev known : Desc
known = desc (arcs [] ∷ []) ((desc (says 10) end or desc (says 11) end or fail) and end)

pub known_words : words known ≡ P
known_words = refl

pub known_loaded : input_loaded 1024 5 known
    ≡ (1 + 1024 * 5 + 1048576 * 2) ∷ 0 ∷ (1 + 1024 * 5 + 1048576 * 1040) ∷ 2 ∷ (2 + 1024 * 6 + 1048576 * 5) ∷ 1 ∷ 1 ∷ 7 ∷ 65546
    ∷ (1024 * 6 + 1048576 * 1034) ∷ (2 + 1024 * 8 + 1048576 * 5) ∷ 1 ∷ 1 ∷ 9 ∷ 65547 ∷ (1024 * 7 + 1048576 * 1040) ∷ []
unfolding Rattle.packing.specs.Packed.graph_word Rattle.packing.specs.Packed.tail_word
known_loaded = refl
