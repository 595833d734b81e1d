-- What is told of a graph that is not pushed. Assumes nothing: these are definitions.
use Rattle.std.specs.Prelude.{◌≡◌, List, [], ◌∷◌, ◌++◌, ℕ}
use Rattle.theory.specs.Net.{Clash, Agree}
use Rattle.loading.specs.Entry.{Entry, graphs}
use Rattle.classes.specs.Entry.{Comes}
use Rattle.classes.specs.Holds.{Holds}
use Rattle.trying.specs.declared.told.Guess.{Guess}
use Rattle.trying.specs.declared.told.Guess.TheVariants.{Agrees, Clashes}

-- whether the graph at g agrees with the graphs that are pushed, told exactly where it is told
pub record Guesses (n k : ℕ) (w : List ℕ) (g : ℕ) (r : Guess) : Type 0 where
  pub agrees : r ≡ Agrees → (es : List Entry) (e : Entry) → e.at ≡ g → Holds n es k w → Comes n es e w →
      Agree (graphs es ++ e.graph ∷ [])
  pub clashes : r ≡ Clashes → (es : List Entry) (e : Entry) → e.at ≡ g → Holds n es k w → Comes n es e w →
      Clash (graphs es ++ e.graph ∷ [])
