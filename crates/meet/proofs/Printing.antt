-- What was written is all there, and can be printed. Assumes nothing.
use mathlib.Core.Path.{◌≡◌, sym, ◌∙◌, subst}
use mathlib.Core.List.{List}
use Prim.Native.Nat.{ℕ, ◌≤◌}
use native.Mathlib.Omega.{arith}
use lib.ListN.{length}
use Rattle.answer_text.specs.Answer.{Wrote}
use Rattle.std.specs.Prelude.{Option, Some, None}
use Rattle.reply.specs.Printed.{printed}
use Rattle.reply.proofs.Lengths.{always_printed}

module _ (text out out' : List ℕ) (r : Option ℕ) (w : Wrote (printed text) out out' r) where
  pub written : (n : ℕ) → r ≡ Some n → Wrote (printed text) out out' (Some n)
  written n e = subst (Wrote (printed text) out out') e w

  -- there is always room
  pub never_without : 32768 ≤ length out → r ≡ None → ⊥
  never_without h e =
      let b : Some (length (printed text)) ≡ None = sym (always_printed text out out' r h w).0 ∙ e in
      let z : ◌≡◌ {A = ℕ} 0 1 = cc in
      omega arith
