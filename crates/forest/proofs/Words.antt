-- The laws of the loaded words. Assumes nothing.
use mathlib.Core.Path.{◌≡◌}
use mathlib.Core.List.{List}
use Prim.Native.Nat.{ℕ, ◌+◌, ◌≤◌, ◌<◌}
use native.Mathlib.Omega.{arith}
use lib.ListN.{length, get_or}
use Rattle.area.specs.Map.{WORDS, MARKS, SIZE}
use Rattle.area.specs.Log.{Later}
use Rattle.area.proofs.Region.{getD_region, region_ext, words_same}
use Rattle.area.specs.Region.{loaded_words}
use Rattle.forest.specs.State.{targets}

pub target_at : (w : List ℕ) (j : ℕ) → j < 2047 → get_or (targets w) j 0 ≡ get_or w (WORDS + 1 + j) 0
unfolding targets
target_at w j h = getD_region (WORDS + 1) 2047 w j h

-- they are the same where the area is
module _ (w w' : List ℕ) (hw : SIZE ≤ length w) (len : length w' ≡ length w) (same : (j : ℕ) → WORDS ≤ j → j < MARKS →
    get_or w' j 0 ≡ get_or w j 0) where
  pub targets_same : targets w' ≡ targets w
  unfolding targets
  targets_same = region_ext (WORDS + 1) 2047 w' w (omega arith) len (λ j h. same (WORDS + 1 + j) (omega arith) (omega arith))

module _ (k : ℕ) (w : List ℕ) (k' : ℕ) (w' : List ℕ) (hw : SIZE ≤ length w) (l : Later k w k' w') where
  pub words_later : loaded_words w' ≡ loaded_words w
  words_later = words_same w w' hw l.len (λ j a b. l.rest j a)

  pub targets_later : targets w' ≡ targets w
  targets_later = targets_same w w' hw l.len (λ j a b. l.rest j a)
