-- What theory says of two inputs that stand loaded, by the marks that are left on their joined description.
-- Assumes nothing.
use Prim.Native.Nat.{ℕ}
use mathlib.Core.Path.{◌≡◌, sym, ap, ap₂, subst, ◌∙◌}
use mathlib.Core.Option.{Option, none, some}
use mathlib.Core.List.{List}
use Rattle.theory.specs.Descr.{Desc}
use Rattle.theory.specs.Modes.{joined, quick, full}
use Rattle.theory.specs.Canonical.{Can}
use Rattle.engine.specs.Placed.{Placed, strip}
use Rattle.engine.specs.Marks.{Marking, all_kept, keep}
use Rattle.engine.specs.Quickly.{quick_at, Leaves}
use Rattle.engine.specs.Shown.{shown}
use Rattle.modes_by_marks.proofs.Marks.{keep_all_marked}
use Rattle.engine.specs.Sane.{Sane}
use Rattle.engine.proofs.Proper.{proper_sane, proper_fold}
use Rattle.modes_by_marks.proofs.Proper.{Proper}
use Rattle.engine.proofs.Shown.{shown_ok}
use Rattle.engine.proofs.Whole as whole
use Rattle.entering.specs.Stage.{Pair}
use Rattle.entering.proofs.Pairs.{strip_first, strip_second, first_can, second_can, first_proper, second_proper, first_distinct}
use Rattle.entering.proofs.Pairs.{second_distinct, both_apart, joined_is, whole_comes}

-- a description with two or more alternatives everywhere is written as it is
pub proper_shown : (d : Desc) → Can d → Proper d → shown d ≡ d
proper_shown d c p = sym (shown_ok d c (proper_sane d c p)) ∙ proper_fold d c p

module _ (n : ℕ) (t : List ℕ) (p : Pair n t) where
  -- the inputs, as they are numbered and as they were
  inputs_are : (f : Desc → Desc → Option Desc) → f p.d p.e ≡ f (strip p.inputs.first.d) (strip p.inputs.second.d)
  inputs_are f = ap₂ f (sym (strip_first n t p)) (sym (strip_second n t p))

  -- ---- mode 0
  pub every_can : Can (strip (keep all_kept p.j))
  every_can = subst (λ (z : Placed). Can (strip z)) (sym (keep_all_marked p.j)) (whole_comes n t p).0

  every_proper : Proper (strip (keep all_kept p.j))
  every_proper = subst (λ (z : Placed). Proper (strip z)) (sym (keep_all_marked p.j)) (whole_comes n t p).1

  pub every_sane : Sane (strip (keep all_kept p.j))
  every_sane = proper_sane (strip (keep all_kept p.j)) every_can every_proper

  pub joined_shown : joined p.d p.e ≡ some (shown (strip (keep all_kept p.j)))
  joined_shown = inputs_are joined ∙ joined_is n t p ∙ ap (λ (z : Placed). some (strip z)) (sym (keep_all_marked p.j))
      ∙ ap some (sym (proper_shown (strip (keep all_kept p.j)) every_can every_proper))

  -- ---- mode 1 fails, and mode 2 with it
  pub quick_none : quick_at p.j ≡ none → quick p.d p.e ≡ none
  quick_none q = inputs_are quick
      ∙ whole.quick_none p.inputs.first.d p.inputs.second.d (first_can n t p) (second_can n t p) (first_proper n t p)
      (second_proper n t p)
      (first_distinct n t p) (second_distinct n t p) (both_apart n t p) p.j p.joined q

  pub full_none : quick_at p.j ≡ none → full p.d p.e ≡ none
  full_none q = inputs_are full
      ∙ whole.full_none p.inputs.first.d p.inputs.second.d (first_can n t p) (second_can n t p) (first_proper n t p)
      (second_proper n t p) (first_distinct n t p) (second_distinct n t p) (both_apart n t p) p.j p.joined q

  -- ---- mode 1 leaves these marks
  module _ (m : Marking) (q : Leaves p.j m) where
    pub left_can : Can (strip (keep m p.j))
    left_can = whole.left_can p.inputs.first.d p.inputs.second.d (first_can n t p) (second_can n t p) (first_proper n t p)
        (second_proper n t p)
        (first_distinct n t p) (second_distinct n t p) (both_apart n t p) p.j p.joined m q

    pub left_sane : Sane (strip (keep m p.j))
    left_sane = whole.left_sane p.inputs.first.d p.inputs.second.d (first_can n t p) (second_can n t p) (first_proper n t p)
        (second_proper n t p) (first_distinct n t p) (second_distinct n t p) (both_apart n t p) p.j p.joined m q

    pub quick_shown : quick p.d p.e ≡ some (shown (strip (keep m p.j)))
    quick_shown = inputs_are quick
        ∙ whole.quick_shown p.inputs.first.d p.inputs.second.d (first_can n t p) (second_can n t p) (first_proper n t p)
        (second_proper n t p)
        (first_distinct n t p) (second_distinct n t p) (both_apart n t p) p.j p.joined m q
