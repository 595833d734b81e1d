-- Where a counted run of words was found in a text, and where a call ends.
-- Assumes nothing: these are definitions.
use Rattle.std.specs.Prelude.{ℕ, ◌≤◌, ◌≡◌, List, drop, Some, None}
use Rattle.std.proofs.Math.Option.{Option, none, some}
use Rattle.call_text.specs.Token.{is, over, bad, token}
use Rattle.call_text.specs.Call.{Taken, words_in, count_limit, counted, upon}
use Rattle.call_text.specs.declared.call.Run.{Run}

-- the text after a run
abbrev pub beyond : Option Taken → Option (List ℕ)
beyond none = none
beyond (some t) = some t.1

-- a run of so many numbers was found from `start` on, the text goes on at `next`; or there is none
abbrev pub Words : Type 0
Words = Rattle.std.specs.Prelude.Option Run

abbrev pub FindsRun : List ℕ → Option Taken → Words → Type 0
FindsRun text run (Some r) =
    (r.count ≤ count_limit) × (words_in r.count (drop r.start text) ≡ run) × (beyond run ≡ some (drop r.next text))
FindsRun text run None = run ≡ none

-- the words of a run, where there is one, were put at the start of dst
abbrev pub Puts : Option Taken → List ℕ → List ℕ → Type 0
Puts run dst dst' = (t : Taken) → run ≡ some t → dst' ≡ upon t.0 dst

-- the text after the call that a text begins with: a mode and two counted runs of words
unfoldable pub leading : List ℕ → Option (List ℕ)
leading cs = elim (token cs) [
  | is m rest ↦ elim (counted rest) [ none ↦ none | some p ↦ beyond (counted p.1) ]
  | over ↦ none
  | bad ↦ none
]

-- the text goes on where the call ends; or it begins with none
abbrev pub FindsEnd : List ℕ → Option (List ℕ) → Rattle.std.specs.Prelude.Option ℕ → Type 0
FindsEnd text o (Some p) = o ≡ some (drop p text)
FindsEnd text o None = o ≡ none
