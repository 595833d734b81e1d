-- Where a run of words was read.
-- Assumes nothing: these are definitions.
use Rattle.std.specs.Prelude.{ℕ, ◌≡◌, List, Some, None, drop}
use Rattle.std.proofs.Math.Option.{Option, none, some}
use Rattle.call_text.specs.Call.{Taken}

-- dst holds the run's words, and the text goes on at `next`; or there is no such run
abbrev pub ReadsRun : List ℕ → Option Taken → List ℕ → Rattle.std.specs.Prelude.Option ℕ → Type 0
ReadsRun text run dst (Some next) = run ≡ some (dst, drop next text)
ReadsRun text run dst None = run ≡ none
