-- The result of every mode has room, and what is put out for the marks of modes 0 and 1 is their result.
-- Assumes nothing.
use Prim.Native.Nat.{ℕ, ◌≤◌}
use native.Mathlib.Omega.{arith}
use mathlib.Core.Path.{◌≡◌, sym, ap, subst, ◌∙◌}
use mathlib.Core.Option.{some}
use mathlib.Core.List.{List}
use lib.ListN.{length}
use Rattle.theory.specs.Descr.{Desc}
use Rattle.theory.specs.Layout.{words}
use Rattle.theory.specs.Modes.{joined, quick}
use Rattle.theory.specs.Rules.{mode_result}
use Rattle.theory.specs.Canonical.{Can}
use Rattle.theory.proofs.Reading.{result_words}
use Rattle.engine.specs.Placed.{strip}
use Rattle.engine.specs.Marks.{Marking, all_kept, keep}
use Rattle.engine.specs.Quickly.{Leaves}
use Rattle.engine.specs.Shown.{shown}
use Rattle.engine.specs.Sane.{Sane}
use Rattle.marks.specs.Marked.{marking}
use Rattle.entering.specs.Stage.{Pair, Stage}
use Rattle.entering.proofs.Conclusions.{every_can, every_sane, joined_shown, left_can, left_sane, quick_shown}
use Rattle.showing.specs.Showing.{outcome, Showing}

module _ (n : ℕ) (t : List ℕ) (p : Pair n t) where
  -- "either input over 1,024 words" is refused
  pub result_room : (mode : ℕ) (r : Desc) → mode_result mode p.d p.e ≡ some r → length (words r) ≤ 2045
  result_room mode r e = omega (arith, result_words mode p.d p.e r p.first_well p.second_well e, p.first_few, p.second_few)

  module _ (k : ℕ) (w : List ℕ) (s : Stage n t p k w) where
    pub result_fits : (mode : ℕ) → mode_result mode p.d p.e ≡ some (outcome w p) → length (words (outcome w p)) ≤ 2048
    result_fits mode e = omega (arith, result_room mode (outcome w p) e)

    -- what a mode leaves may be put out
    abbrev pub showing : (mode : ℕ) → Can (strip (keep (marking w) p.j)) → Sane (strip (keep (marking w) p.j)) →
        mode_result mode p.d p.e ≡ some (outcome w p) → Showing n k w
    showing mode c d e = record { t = t; p = p; stage = s; can = c; sane = d; room = result_fits mode e }

    -- ---- mode 0
    module _ (every : marking w ≡ all_kept) where
      pub joined_outcome : joined p.d p.e ≡ some (outcome w p)
      joined_outcome = joined_shown n t p ∙ ap (λ (m : Marking). some (shown (strip (keep m p.j)))) (sym every)

      pub joined_can : Can (strip (keep (marking w) p.j))
      joined_can = subst (λ (m : Marking). Can (strip (keep m p.j))) (sym every) (every_can n t p)

      pub joined_sane : Sane (strip (keep (marking w) p.j))
      joined_sane = subst (λ (m : Marking). Sane (strip (keep m p.j))) (sym every) (every_sane n t p)

      abbrev pub joined_showing : Showing n k w
      joined_showing = showing 0 joined_can joined_sane joined_outcome

    -- ---- mode 1
    module _ (left : Leaves p.j (marking w)) where
      pub quick_outcome : quick p.d p.e ≡ some (outcome w p)
      quick_outcome = quick_shown n t p (marking w) left

      abbrev pub quick_showing : Showing n k w
      quick_showing = showing 1 (left_can n t p (marking w) left) (left_sane n t p (marking w) left) quick_outcome
