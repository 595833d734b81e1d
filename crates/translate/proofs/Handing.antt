-- Words that end a buffer are handed over.
-- Assumes nothing.
use Prim.Native.Nat.{ℕ, ◌-◌, ◌≤◌}
use mathlib.Core.Path.{◌≡◌, sym, ap, ◌∙◌}
use mathlib.Core.List.{List, ◌++◌}
use Rattle.std.specs.Prelude.{Ok}
use native.Mathlib.Omega.{arith}
use lib.ListN.{length, take, drop}
use Rattle.theory.specs.Limits.{input_limit}
use Rattle.layout.proofs.Standing.{stands_taken}
use Rattle.area.specs.Region.{region}
use Rattle.translate.specs.Stages.{HandsOver}

module _ (b : List ℕ) (len : ℕ) (room : List ℕ) (size : length b ≡ input_limit) where
  -- more words than fit
  pub hand_done : (out : List ℕ) → len ≤ input_limit → len ≤ length room →
      out ≡ take (length b - (input_limit - len)) (drop (input_limit - len) b) ++ drop len room → HandsOver b len room (Ok len) out
  unfolding region
  hand_done out l s q ws e =
      let many = e.many in
      let long : len ≡ length ws = omega (arith, many, size) in
      let from : length b - length ws ≡ input_limit - len = omega (arith, size, long) in
      let all : length b - (input_limit - len) ≡ length ws = omega (arith, size, long, l) in
      let taken = stands_taken b ws (length b - length ws) (length b) (e.words (omega (arith, long, size))) in
      let there : take (length b - (input_limit - len)) (drop (input_limit - len) b) ≡ ws =
      ap (λ (n : ℕ). take n (drop (input_limit - len) b)) all ∙ ap (λ (p : ℕ). take (length ws) (drop p b)) (sym from) ∙ taken in
      (omega (arith, long), long, s, q ∙ ap (λ (xs : List ℕ). xs ++ drop len room) there)
