-- What is asked of a layout.
-- Assumes nothing.
use mathlib.Core.Path.{◌≡◌, ap, sym, ◌∙◌}
use mathlib.Core.Option.{Option, none, some}
use mathlib.Core.List.{List}
use Prim.Native.Nat.{ℕ, ◌≤◌}
use lib.ListN.{length}
use Rattle.descriptions.specs.Limits.{depth_limit, input_limit}
use Rattle.descriptions.specs.Joining.{Joining}
use Rattle.descriptions.specs.Descr.{Desc, desc, end}
use Rattle.descriptions.specs.Layout.{Layout, Image}
use Rattle.descriptions.specs.Rules.{mode_result}
use Rattle.descriptions.proofs.Laws.{Laws}
use Rattle.descriptions.proofs.Mean.{Can}

module _ {Graph : Type 0} (𝓕 : Layout Graph) where
  pub data Decoded (ws : List ℕ) : Option (Desc Graph) → Type 0 where
    is : (d : Desc Graph) → 𝓕.WellFormed d depth_limit → ws ≡ 𝓕.words d → Decoded ws (some d)
    malformed : ¬ (Image 𝓕 ws) → Decoded ws none

pub record Reads {Graph : Type 0} {J : Joining Graph} (𝓛 : Laws J) (𝓕 : Layout Graph) : Type 1 where
  -- "a graph has one image only", and the reader finds it
  pub decoded : (ws : List ℕ) → Decoded 𝓕 ws (𝓕.decode ws)
  pub decode_words : (d : Desc Graph) → 𝓕.WellFormed d depth_limit → 𝓕.decode (𝓕.words d) ≡ some d
  pub well_can : (d : Desc Graph) → 𝓕.WellFormed d depth_limit → Can 𝓛 d
  pub nothing_well : 𝓕.WellFormed (desc J.nil end) depth_limit
  -- a result is well formed
  pub result_well : (mode : ℕ) (a b d : Desc Graph) → 𝓕.WellFormed a depth_limit → 𝓕.WellFormed b depth_limit →
      mode_result J mode a b ≡ some d → length (𝓕.words a) ≤ input_limit → length (𝓕.words b) ≤ input_limit → 𝓕.WellFormed d depth_limit

module _ {Graph : Type 0} {J : Joining Graph} {𝓛 : Laws J} {𝓕 : Layout Graph} (𝓡 : Reads 𝓛 𝓕) where
  -- words are the image of one description only
  pub one_image : (d e : Desc Graph) → 𝓕.WellFormed d depth_limit → 𝓕.WellFormed e depth_limit → 𝓕.words d ≡ 𝓕.words e → d ≡ e
  one_image d e p q h = let k : some d ≡ some e = sym (𝓡.decode_words d p) ∙ ap 𝓕.decode h ∙ 𝓡.decode_words e q in cc
