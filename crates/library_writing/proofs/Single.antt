-- One outcome for each input of the writer, and how large what is told may be.
-- Assumes nothing.
use Prim.Native.Nat.{ℕ, ◌*◌, ◌≤◌}
use native.Mathlib.Omega.{arith}
use mathlib.Core.Path.{◌≡◌, refl, sym, ap, subst, ◌∙◌}
use mathlib.Core.List.{List, [], ◌∷◌}
use lib.ListN.{length}
use Rattle.library.specs.File.{file}
use Rattle.library_writing.specs.Write.{Written, split, need, written_after, WritesLibrary, InPairs, blocks_asked}
use Rattle.library_writing.specs.Reasons.{Orderly, DescribesEach, WhyWritten, unlisted, malformed, short, fine}
use Rattle.library_writing.specs.Told.{write_number, write_extent, WriteTold}
use Rattle.std.specs.Prelude.{Ok, Err}
use Rattle.library_writing.proofs.Asked.{listable_pairs}
use Rattle.library_writing.proofs.Answers.{need-is}
use Rattle.library_writing.proofs.Causes.{orderly_listable, describes_sound, write_why}

module _ (es ws area : List ℕ) where
  -- the contract of the writer allows one answer, and one area
  pub one_write : (r s : Written) (x y : List ℕ) → WritesLibrary es ws area x r → WritesLibrary es ws area y s → (r ≡ s) × (x ≡ y)
  one_write r s x y p q =
      let same : r ≡ s = p.answer ∙ sym q.answer in
      (same, p.leaves ∙ ap (λ (t : Written). written_after t (file (split es ws)) area) same ∙ sym q.leaves)

  pub one_write_told : (m n i j : ℕ) (x y : List ℕ) → WriteTold es ws area m i x → WriteTold es ws area n j y
      → (m ≡ n) × (i ≡ j) × (x ≡ y)
  one_write_told m n i j x y p q =
      let same = one_write p.answer q.answer x y p.writes q.writes in (
        p.the_number ∙ ap write_number same.0 ∙ sym q.the_number,
        p.the_extent ∙ ap write_extent same.0 ∙ sym q.the_extent,
        same.1,
      )

  -- "A refusal writes nothing"
  pub write_refusal : (r : Written) (x : List ℕ) → WritesLibrary es ws area x r → ¬ (write_number r ≡ 0) → x ≡ area
  write_refusal (Ok n) x p h = absurd (h refl)
  write_refusal (Err e) x p h = p.leaves

blocks_few : (es : List ℕ) → InPairs es → 2 * blocks_asked es ≤ 9 * length es
unfolding blocks_asked
blocks_few [] p = omega arith
blocks_few (id ∷ []) p = absurd p
blocks_few (id ∷ (n ∷ es)) p = let h = blocks_few es p.1 in let m = p.0 in omega arith

-- a library has at most 541 blocks
pub need_small : (es ws : List ℕ) → Orderly es → DescribesEach es ws → need es ws ≤ 276992
need_small es ws o d =
    let p = listable_pairs 60 0 es (orderly_listable es o) in
    let h = need-is es ws p.0 (describes_sound es ws d) p.1 in
    let few = blocks_few es p.0 in
    let most = p.1 in
    omega arith

pub write_small : (es ws area area' : List ℕ) (r : Written) → WritesLibrary es ws area area' r → write_extent r ≤ 276992
write_small es ws area area' r w =
    go r (subst (λ (s : Written). WhyWritten es ws (length area) s) (sym w.answer) (write_why es ws (length area)))
  where
    go : (r : Written) → WhyWritten es ws (length area) r → write_extent r ≤ 276992
    go _ (unlisted o) = omega arith
    go _ (malformed o d) = omega arith
    go _ (short o d h) = need_small es ws o d
    go _ (fine o d h) = need_small es ws o d
