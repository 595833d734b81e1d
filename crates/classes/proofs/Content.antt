-- What a class holds, for a writer of the joined graph. Assumes nothing.
use mathlib.Core.Path.{◌≡◌}
use mathlib.Core.List.{List, Memᴰ}
use Prim.Native.Nat.{ℕ, ◌+◌, ◌≤◌, ◌<◌}
use lib.ListN.{length, get_or}
use Rattle.theory.specs.Limits.{code_limit}
use Rattle.theory.specs.Net.{beside}
use Rattle.area.specs.Region.{loaded_words}
use Rattle.forest.specs.Held.{ChainCode, AtomCode}
use Rattle.forest.specs.State.{targets, Chain, First}
use Rattle.loading.specs.Entry.{Entry, graphs}
use Rattle.classes.specs.Entry.{Spots, spot_number}

-- the word c of w has an atom's head where the class c of the graphs es holds that atom; else a chain of its arcs from there, which
-- has one for each of its features
pub record Content (es : List Entry) (class : ℕ → ℕ) (w : List ℕ) (c : ℕ) : Type 0 where
  pub atom_in : (s : Spots es) (a : ℕ) → (beside (graphs es)).Atom s a → class (spot_number es s) ≡ c → get_or w c 0 ≡ code_limit + a
  pub atom_from : AtomCode (get_or w c 0) →
      (s : Spots es) × ((class (spot_number es s) ≡ c) × ((a : ℕ) × ((beside (graphs es)).Atom s a × (get_or w c 0 ≡ code_limit + a))))
  pub chain : List ℕ
  pub short : length chain ≤ 2048
  pub linked : ChainCode (get_or w c 0) → Chain w (get_or w c 0) chain
  pub arc_in : (s : Spots es) (f : ℕ) (t : Spots es) → (beside (graphs es)).Arc s f t → class (spot_number es s) ≡ c
      → ChainCode (get_or w c 0) × ((q : ℕ) × (First (loaded_words w) f chain q × (class (get_or (targets w) q 0) ≡ class (spot_number es t))))
  pub arc_from : (q : ℕ) → Memᴰ q chain
      → (q < 2047) × ((s : Spots es)
      × ((t : Spots es) × ((class (spot_number es s) ≡ c)
      × ((spot_number es t ≡ get_or (targets w) q 0) × (beside (graphs es)).Arc s (get_or (loaded_words w) q 0) t))))
