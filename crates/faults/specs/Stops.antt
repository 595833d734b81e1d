-- Where going over the words stops.
-- Assumes nothing: these are definitions.
use Rattle.std.specs.Prelude.{◌≡◌, List, ℕ, ◌<◌, length, get_or}
use Rattle.std.proofs.Math.Option.{Option, none, some}
use Rattle.roles.specs.Faults.{Cause, Role, role, breaks, expected_at}

-- at a place the words end, or a word breaks a rule
abbrev pub StopsBy : List ℕ → ℕ → Option Cause → Type 0
StopsBy ws p none = p ≡ length ws
StopsBy ws p (some c) = (p < length ws) × (breaks (expected_at ws p) (get_or ws p 0) ≡ some c)

-- no word before a place breaks a rule, and there is what stops
pub record Stopped (ws : List ℕ) (r : Role) (broken : Option Cause) (p : ℕ) : Type 0 where
  pub before : (i : ℕ) → i < p → breaks (expected_at ws i) (get_or ws i 0) ≡ none
  pub there : role (expected_at ws p) ≡ r
  pub by : StopsBy ws p broken
