-- Writing a text piece by piece: where it stands between two pieces.
-- Assumes nothing: these are definitions.
use Rattle.std.specs.Prelude.{Option, Some, None, ℕ, ◌≤◌, ◌<◌, ◌≡◌, List, ◌++◌, length, drop}

-- of the whole text all but what is left stands in dst, up to `at`; from there on dst is as it was
pub record Going (old whole dst : List ℕ) (at : ℕ) (left : List ℕ) : Type 0 where
  pub written : List ℕ
  pub splits : whole ≡ written ++ left
  pub place : length written ≡ at
  pub holds : dst ≡ written ++ drop at old
  pub room : at ≤ length old

-- where writing stands after a piece: this is left, or there is no room for the whole
abbrev pub Gone : List ℕ → List ℕ → List ℕ → List ℕ → Option ℕ → Type 0
Gone old whole left dst (Some at) = Going old whole dst at left
Gone old whole left dst None = length old < length whole

-- one piece of any text was written
abbrev pub Appends : List ℕ → List ℕ → ℕ → List ℕ → Option ℕ → Type 0
Appends piece dst at dst' r = (old whole left : List ℕ) → Going old whole dst at (piece ++ left) → Gone old whole left dst' r
