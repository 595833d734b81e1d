-- What was written is all there, and can be printed. Assumes nothing.
use mathlib.Core.Path.{◌≡◌, sym, ◌∙◌, subst}
use mathlib.Core.List.{List}
use Prim.Native.Nat.{ℕ, ◌≤◌}
use native.Mathlib.Omega.{arith}
use lib.ListN.{length}
use Rattle.std.specs.Prelude.{Option, Some, None}
use Rattle.formula_text.specs.Printed.{Replied}
use Rattle.formula_text.proofs.Printing.{always_printed}

module _ (text out out' : List ℕ) (r : Option ℕ) (w : Replied text out out' r) where
  pub written : (n : ℕ) → r ≡ Some n → Replied text out out' (Some n)
  written n e = subst (Replied text out out') e w

  -- there is always room
  pub never_without : 16384 ≤ length out → r ≡ None → ⊥
  never_without h e =
      let b : Some (length w.text) ≡ None = sym (always_printed text out out' r h w).0 ∙ e in
      let z : ◌≡◌ {A = ℕ} 0 1 = cc in
      omega arith
