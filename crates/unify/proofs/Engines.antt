-- Both engines answer alike: what the contract of `plain` and that of `unify` in mode 2 promise of one call is one thing.
-- Assumes nothing.
use mathlib.Core.Path.{◌≡◌}
use mathlib.Core.List.{List}
use Prim.Native.Nat.{ℕ}
use Rattle.theory.specs.Answer.{Call}
use Rattle.theory.specs.Outcome.{Areas, Outcome}
use Rattle.theory.proofs.Reading.{reads}
use Rattle.descriptions.proofs.Table.{one_outcome}
use Rattle.roles.specs.Coded.{cause_of}
use Rattle.roles.specs.declared.cause.Cause.{Cause}
use Rattle.faults.proofs.Run.{one_fault}
use Rattle.answering.specs.Number.{row_of}
use Rattle.answering.specs.Caused.{CauseIn}
use Rattle.answering.specs.Answer.{Answer}

-- "Its number, length, readings and words must equal those of the existing engine on every input": r and `after` are what `plain`
-- answers and leaves, s and `after'` what `unify` does in mode 2, from the same inputs and areas
module _ (first second : List ℕ) (before : Areas) where
  abbrev call : Call
  call = record { mode = 2; first = first; second = second }

  pub plain_same : (r s : Answer) (after after' : Areas) → Outcome call before (row_of r) after → Outcome call before (row_of s) after' →
      ((row_of r).number ≡ (row_of s).number) × ((row_of r).extent ≡ (row_of s).extent) × ((row_of r).readings ≡ (row_of s).readings)
      × ((row_of r).node ≡ (row_of s).node)
      × (after.result ≡ after'.result) × (after.working ≡ after'.working)
  plain_same r s after after' p q = one_outcome reads call before (row_of r) (row_of s) after after' p q

-- and the cause that 4 or 5 carries
pub same_cause : (ws : List ℕ) (c c' : Cause) → CauseIn ws c → CauseIn ws c' → cause_of c ≡ cause_of c'
same_cause ws c c' p q = (one_fault ws (cause_of c) (cause_of c') p.0 q.0 p.1 q.1).0
