-- Layout one: the reader, and that results are well formed.
-- Assumes nothing.
use mathlib.Core.Path.{◌≡◌, subst}
use mathlib.Core.Option.{Option, none, some}
use mathlib.Core.List.{List}
use Prim.Native.Nat.{ℕ, zero, suc, ◌+◌, ◌≤◌}
use native.Mathlib.Omega.{arith}
use lib.ListN.{length}
use Rattle.descriptions.proofs.Layouts as G
use Rattle.descriptions.proofs.Layouts.{Reads}
use Rattle.descriptions.proofs.Soft as Soft
use Rattle.descriptions.proofs.Live as Live
use Rattle.theory.specs.Limits.{depth_limit, input_limit}
use Rattle.theory.specs.Descr.{Desc}
use Rattle.theory.specs.Layout.{words, WellFormed}
use Rattle.theory.specs.Reading.{decode}
use Rattle.theory.specs.Rules.{mode_result}
use Rattle.theory.specs.LayoutOne.{layout_one}
use Rattle.theory.proofs.Decode.{Decoded, is, malformed, decoded, decode_words}
use Rattle.theory.proofs.Nothing.{nil_canonical}
use Rattle.theory.proofs.Laws.{laws}
use Rattle.theory.proofs.Weights.{weights_one, well_soft, soft_well, len_is}

pub well_can : (d : Desc) → WellFormed d depth_limit → Rattle.descriptions.proofs.Mean.Can laws d
well_can d p = Soft.soft_can weights_one 2 d 4 (well_soft d 4 p)

result_kept : (mode : ℕ) (a b : Desc) → Soft.Soft weights_one 2 a depth_limit → Soft.Soft weights_one 2 b depth_limit →
    Soft.JoinKept weights_one a b 4 (mode_result mode a b)
result_kept zero a b p q = Soft.joined_kept weights_one a b 4 p q
result_kept (suc zero) a b p q = Soft.quick_kept weights_one a b 4 p q
result_kept (suc (suc m)) a b p q = Live.full_kept weights_one a b 4 p q

module _ (mode : ℕ) (a b d : Desc) (p : WellFormed a depth_limit) (q : WellFormed b depth_limit) (e : mode_result mode a b ≡ some d) where
  kept : Soft.Soft weights_one 2 d depth_limit × (Soft.len weights_one d + 3 ≤ Soft.len weights_one a + Soft.len weights_one b)
  kept = subst (Soft.JoinKept weights_one a b 4) e (result_kept mode a b (well_soft a 4 p) (well_soft b 4 q))

  -- the words of a result number at most those of both inputs less 3
  pub result_words : length (words d) + 3 ≤ length (words a) + length (words b)
  result_words = let h = kept.1 in omega (arith, h, len_is d, len_is a, len_is b)

  -- a result is well formed
  pub result_well : length (words a) ≤ input_limit → length (words b) ≤ input_limit → WellFormed d depth_limit
  result_well la lb = let h = kept.1 in soft_well d 4 kept.0 (omega (arith, h, len_is a, len_is b))

pub read_one : (ws : List ℕ) → G.Decoded layout_one ws (decode ws)
read_one ws = go (decode ws) (decoded ws)
  where
    go : (o : Option Desc) → Decoded ws o → G.Decoded layout_one ws o
    go none (malformed n) = G.malformed n
    go (some d) (is c w e) = G.is d w e

abbrev pub reads : Reads laws layout_one
reads = record {
  decoded = read_one;
  decode_words = decode_words;
  well_can = well_can;
  nothing_well = (nil_canonical, ((omega arith, tt), tt), tt);
  result_well = λ mode a b d p q e. result_well mode a b d p q e;
}
