-- Two inputs that stand loaded and whose definite graphs join: what theory and engine ask of them.
-- Assumes nothing.
use Prim.Native.Nat.{ℕ, ◌+◌}
use native.Mathlib.Omega.{arith}
use mathlib.Core.Path.{◌≡◌, sym, ap, subst, ◌∙◌}
use mathlib.Core.Option.{some}
use mathlib.Core.List.{List}
use Rattle.theory.specs.Limits.{depth_limit}
use Rattle.theory.specs.Modes.{joined}
use Rattle.theory.specs.Canonical.{Can}
use Rattle.theory.proofs.Reading.{well_can}
use Rattle.engine.specs.Placed.{strip}
use Rattle.modes_by_marks.specs.Names.{names, Apart, Distinct}
use Rattle.engine.proofs.Proper.{well_proper, Comes, joined_comes}
use Rattle.modes_by_marks.proofs.Proper.{Proper}
use Rattle.engine.proofs.Beside.{joined_strip, joined_distinct}
use Rattle.modes_by_marks.proofs.Beside.{strip_some, SomeDistinct}
use Rattle.loading.specs.Loaded.{nodes_in}
use Rattle.loading.proofs.Names.{numbered_strip}
use Rattle.loading.proofs.Lying.{distinct_of}
use Rattle.entering.specs.Inputs.{Inputs}
use Rattle.entering.specs.Stage.{Pair}

-- the inputs have no mark in common
pub inputs_apart : {n : ℕ} {t : List ℕ} (i : Inputs n t) → Apart (names i.first.d) (names i.second.d)
inputs_apart i y a b = omega (arith, (i.marks_first y a).1, (i.marks_second y b).0, i.apart)

module _ (n : ℕ) (t : List ℕ) (p : Pair n t) where
  pub strip_first : strip p.inputs.first.d ≡ p.d
  strip_first = ap strip p.first_is ∙ numbered_strip 1 p.d

  pub strip_second : strip p.inputs.second.d ≡ p.e
  strip_second = ap strip p.second_is ∙ numbered_strip (nodes_in p.d + 1) p.e

  pub first_can : Can (strip p.inputs.first.d)
  first_can = subst Can (sym strip_first) (well_can p.d p.first_well)

  pub second_can : Can (strip p.inputs.second.d)
  second_can = subst Can (sym strip_second) (well_can p.e p.second_well)

  pub first_proper : Proper (strip p.inputs.first.d)
  first_proper = subst Proper (sym strip_first) (well_proper p.d depth_limit p.first_well)

  pub second_proper : Proper (strip p.inputs.second.d)
  second_proper = subst Proper (sym strip_second) (well_proper p.e depth_limit p.second_well)

  pub first_distinct : Distinct p.inputs.first.d
  first_distinct = distinct_of p.inputs.first

  pub second_distinct : Distinct p.inputs.second.d
  second_distinct = distinct_of p.inputs.second

  pub both_apart : Apart (names p.inputs.first.d) (names p.inputs.second.d)
  both_apart = inputs_apart p.inputs

  -- mode 0, without the numbers
  pub joined_is : joined (strip p.inputs.first.d) (strip p.inputs.second.d) ≡ some (strip p.j)
  joined_is = joined_strip p.inputs.first.d p.inputs.second.d ∙ ap strip_some p.joined

  pub whole_comes : Can (strip p.j) × Proper (strip p.j)
  whole_comes = subst Comes joined_is
      (joined_comes (strip p.inputs.first.d) (strip p.inputs.second.d) first_can second_can first_proper second_proper)

  pub whole_distinct : Distinct p.j
  whole_distinct = subst SomeDistinct p.joined
      (joined_distinct p.inputs.first.d p.inputs.second.d first_distinct second_distinct both_apart)
