-- What is told of an alternative that is not entered.
-- Assumes nothing: these are definitions.
use Rattle.std.specs.Prelude.{ℕ, ◌≡◌, List, [], ◌∷◌}
use Rattle.loading.specs.Lying.{mark_of}
use Rattle.trying.specs.declared.told.Guess.{Guess}
use Rattle.trying.specs.declared.told.Guess.TheVariants.{Agrees, Clashes}
use Rattle.search.specs.declared.agenda.Agenda.{Agenda}
use Rattle.search.specs.Searched.{Taking, taken_with}

-- what is asked: an alternative stands loaded at g, and `left` frames come after it
pub record Foreseeing (n k : ℕ) (w : List ℕ) (g left : ℕ) : Type 0 where
  pub a : Agenda
  pub many : a.frames ≡ left
  pub taking : Taking n k w g a

-- where it clashes nothing is found with it; where it agrees, and nothing is left, itself alone
pub record Foresees (n k : ℕ) (w : List ℕ) (g left : ℕ) (r : Guess) : Type 0 where
  pub clashes : r ≡ Clashes → (a : Agenda) (c : Taking n k w g a) → taken_with c ≡ []
  pub agrees : r ≡ Agrees → (a : Agenda) → a.frames ≡ left → (c : Taking n k w g a) →
      taken_with c ≡ (mark_of c.lies ∷ []) ∷ []
