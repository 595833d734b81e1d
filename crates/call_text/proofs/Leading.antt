-- The call that a text begins with, found part by part: one law for each way that it goes on or ends.
-- Assumes nothing.
use Prim.Native.Nat.{ℕ}
use mathlib.Core.Path.{◌≡◌, refl, sym, ap, ◌∙◌}
use mathlib.Core.Option.{Option, none, some}
use mathlib.Core.List.{List}
use lib.ListN.{drop}
use Rattle.call_text.specs.declared.number.Token.{Token}
use Rattle.call_text.specs.declared.number.Token.TheVariants.{Is, Over, Bad}
use Rattle.std.specs.Prelude.{Some}
use Rattle.call_text.specs.declared.call.Run.{Run}
use Rattle.call_text.specs.Token.{Start, is, over, bad, token}
use Rattle.call_text.specs.Call.{Taken, counted}
use Rattle.call_text.specs.Finding.{beyond, FindsRun, leading}
use Rattle.call_text.proofs.Tokens.{meant}
use Rattle.call_text.proofs.Runs.{Other}
use Rattle.call_text.proofs.Calls.{there}

-- after the first run, and after the mode
abbrev second : Option Taken → Option (List ℕ)
second none = none
second (some p) = beyond (counted p.1)

abbrev by_mode : Start → Option (List ℕ)
by_mode (is m rest) = second (counted rest)
by_mode over = none
by_mode bad = none

second_is : (o : Option Taken) → second o ≡ elim o [ none ↦ none | some p ↦ beyond (counted p.1) ]
second_is none = refl
second_is (some p) = refl

by_mode_is : (s : Start) → by_mode s ≡ elim s [
  | is m rest ↦ elim (counted rest) [ none ↦ none | some p ↦ beyond (counted p.1) ]
  | over ↦ none
  | bad ↦ none
]
by_mode_is (is m rest) = second_is (counted rest)
by_mode_is over = refl
by_mode_is bad = refl

leading_start : (cs : List ℕ) (s : Start) → token cs ≡ s → leading cs ≡ by_mode s
unfolding leading
leading_start cs s e = sym (by_mode_is (token cs)) ∙ ap by_mode e

-- no mode comes
pub leads_stops : (cs text : List ℕ) (r : Token) → meant text r ≡ token cs → Other r → leading cs ≡ none
leads_stops cs text (Is v q) e o = absurd (o v q refl)
leads_stops cs text Over e o = leading_start cs over (sym e)
leads_stops cs text Bad e o = leading_start cs bad (sym e)

module _ (cs text : List ℕ) (v p : ℕ) (mode : is v (drop p text) ≡ token cs) where
  abbrev first : Option Taken
  first = counted (drop p text)

  -- no first run
  pub leads_without : first ≡ none → leading cs ≡ none
  leads_without e = leading_start cs (is v (drop p text)) (sym mode) ∙ ap second e

  module _ (r : Run) (f : FindsRun text first (Some r)) where
    abbrev rest : Option Taken
    rest = counted (drop r.next text)

    onward : leading cs ≡ beyond rest
    onward = let ahead = there text first r.next f.2 in leading_start cs (is v (drop p text)) (sym mode) ∙ ap second (sym ahead.1)

    -- no second run, or both
    pub leads_short : rest ≡ none → leading cs ≡ none
    leads_short e = onward ∙ ap beyond e

    pub leads_on : (w : Run) → FindsRun text rest (Some w) → leading cs ≡ some (drop w.next text)
    leads_on w g = onward ∙ g.2
