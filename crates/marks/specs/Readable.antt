-- What may be read of the loaded words of the area w.
-- Assumes nothing: these are definitions.
use Rattle.std.specs.Prelude.{ℕ, ◌≤◌, ◌<◌, List, length}
use Rattle.area.specs.Map.{SIZE}
use Rattle.area.specs.Region.{loaded_words}
use Rattle.packing.specs.Packed.{number_step}
use Rattle.loading.specs.Lying.{Lying, LyingAny}

-- a description stands loaded at g, in an area that is large enough and with numbers that are small enough
pub record Readable (w : List ℕ) (g left : ℕ) : Type 0 where
  pub room : SIZE ≤ length w
  pub n : ℕ
  pub few : n < number_step
  pub lies : Lying n (loaded_words w) g left

-- `count` alternatives stand so from p on
pub record Alternatives (w : List ℕ) (p count : ℕ) : Type 0 where
  pub room : SIZE ≤ length w
  pub n : ℕ
  pub few : n < number_step
  pub left : ℕ
  pub lies : LyingAny n (loaded_words w) p count left
