-- What a layout has to offer: the words of a description, when it is well formed, and a program that reads them back.
-- Assumes nothing: these are definitions.
use Rattle.std.specs.Prelude.{◌≡◌, List, ℕ}
use Rattle.std.proofs.Math.Option.{Option}
use Rattle.descriptions.specs.Limits.{depth_limit}
use Rattle.descriptions.specs.Descr.{Desc}

pub record Layout (Graph : Type 0) : Type 1 where
  -- "A description is a run of unsigned 32-bit words"
  pub words : Desc Graph → List ℕ
  -- with alternatives nested at most so deep
  pub WellFormed : Desc Graph → ℕ → Type 0
  pub decode : List ℕ → Option (Desc Graph)

module _ {Graph : Type 0} (𝓕 : Layout Graph) where
  open 𝓕 use {words, WellFormed}

  -- these words are a description; "anything else, words missing or words left over, is malformed"
  abbrev pub Image : List ℕ → Type 0
  Image ws = (d : Desc Graph) × WellFormed d depth_limit × (ws ≡ words d)
