-- The modes by marks, from the two placed inputs to the results of document 01.
-- Assumes nothing.
use mathlib.Core.Path.{◌≡◌, ap, sym, ◌∙◌, subst}
use mathlib.Core.Option.{Option, none, some}
use mathlib.Core.List.{[], ◌∷◌}
use Prim.Native.Nat.{ℕ, suc, ◌≤◌, min}
use native.Mathlib.Omega.{arith}
use lib.Dec.{ltb}
use lib.ListN.{length}
use Rattle.descriptions.specs.Limits.{choice_limit, choice_stop}
use Rattle.descriptions.specs.Descr.{Desc, number, readings}
use Rattle.descriptions.specs.Modes.{fold, full, joined, quick}
use Rattle.descriptions.specs.Answer.{consistent}
use Rattle.descriptions.proofs.Mean.{Can}
use Rattle.descriptions.proofs.Counting.{capped_number, over_limit}
use Rattle.modes_by_marks.specs.Placed.{Placed, strip}
use Rattle.modes_by_marks.specs.Marks.{Marking, keep, left_by}
use Rattle.modes_by_marks.specs.Beside.{joined_placed}
use Rattle.modes_by_marks.specs.Quickly.{Leaves, quick_at}
use Rattle.modes_by_marks.specs.Counting.{count_at}
use Rattle.modes_by_marks.specs.Search.{full_left, full_readings_by, lit, search}
use Rattle.modes_by_marks.specs.Shown.{shown}
use Rattle.modes_by_marks.specs.Names.{Apart, Distinct, names}
use Rattle.modes_by_marks.proofs.Entail.{fine_cons}
use Rattle.modes_by_marks.proofs.Stable.{Best, part_can}
use Rattle.modes_by_marks.proofs.Sane.{stable_sane}
use Rattle.modes_by_marks.proofs.Passes.{Passed}
use Rattle.modes_by_marks.proofs.Proper.{Comes, Proper, joined_comes, quick_best}
use Rattle.modes_by_marks.proofs.QuickStep.{quick_passed}
use Rattle.modes_by_marks.proofs.Shown.{fold_some, shown_ok, shown_some}
use Rattle.modes_by_marks.proofs.FullStep.{full_count, full_joined, full_of, full_result, full_sane, full_writes, hopeless_full}
use Rattle.modes_by_marks.proofs.Counting.{count_left, number_fold}
use Rattle.modes_by_marks.proofs.Beside.{SomeDistinct, joined_distinct, joined_strip, strip_some}
use Rattle.modes_by_marks.specs.Sane.{Sane}
use Rattle.descriptions.proofs.Laws.{Laws}
use Rattle.descriptions.specs.Joining.{Joining}

module _ {Graph : Type 0} {J : Joining Graph} (𝓛 : Laws J) where
  open J use {nil}
  open 𝓛 use {nil_canonical}

  module _ (a b : Placed Graph) (ca : Can 𝓛 (strip a)) (cb : Can 𝓛 (strip b)) (pa : Proper (strip a)) (pb : Proper (strip b))
      (wa : Distinct a) (wb : Distinct b) (w : Apart (names a) (names b)) where
    module _ (d : Placed Graph) (e : joined_placed J a b ≡ some d) where
      j : joined J (strip a) (strip b) ≡ some (strip d)
      j = joined_strip J a b ∙ ap strip_some e

      wd : Distinct d
      wd = subst SomeDistinct e (joined_distinct J a b wa wb w)

      cd : Can 𝓛 (strip d) × Proper (strip d)
      cd = subst (Comes 𝓛) j (joined_comes 𝓛 (strip a) (strip b) ca cb pa pb)

      -- mode 1
      pub quick_whole : quick J (strip a) (strip b) ≡ fold_some J (left_by d (quick_at J d))
      quick_whole = quick_best 𝓛 (strip a) (strip b) ca cb pa pb (strip d) j (left_by d (quick_at J d)) (quick_passed 𝓛 d cd.0 wd)

      pub quick_none : quick_at J d ≡ none → quick J (strip a) (strip b) ≡ none
      quick_none q = quick_whole ∙ ap (λ (o : Option Marking). fold_some J (left_by d o)) q

      full_is : full J (strip a) (strip b) ≡ full_of J (strip d)
      full_is = full_joined J (strip a) (strip b) ∙ ap (λ (o : Option (Desc Graph)). elim o [ none ↦ none | some e ↦ full_of J e ]) j

      -- where it clashes, mode 2 does
      pub full_none : quick_at J d ≡ none → full J (strip a) (strip b) ≡ none
      full_none q = full_is ∙ hopeless_full 𝓛 (strip d) cd.0
          (subst (λ (o : Option Marking). Passed J (strip d) (left_by d o)) q (quick_passed 𝓛 d cd.0 wd))

      module _ (m : Marking) (q : Leaves J d m) where
        best : Best J (nil ∷ []) (strip d) (strip (keep m d))
        best = subst (Passed J (strip d)) q (quick_passed 𝓛 d cd.0 wd)

        -- mode 2
        pub full_whole : full J (strip a) (strip b) ≡ fold_some J (full_left J m d)
        full_whole = full_is ∙ sym (full_result 𝓛 d cd.0 cd.1 wd m best)

        -- its readings
        pub full_number : full_readings_by J m d ≡ readings J (strip d)
        full_number = full_count 𝓛 d cd.0 cd.1 wd m best

        pub full_consistent : full_readings_by J m d ≡ consistent J (strip a) (strip b)
        unfolding consistent
        full_consistent = full_number ∙ sym (ap (λ (o : Option (Desc Graph)). elim o [ none ↦ 0 | some e ↦ readings J e ]) j)

        -- what it leaves can be folded
        pub full_can : (n : ℕ) → length (search J (keep m d)) ≡ suc n →
            Can 𝓛 (strip (keep (lit (search J (keep m d))) d)) × Sane J (strip (keep (lit (search J (keep m d))) d))
        full_can n found = full_sane 𝓛 d cd.0 cd.1 wd m best n found

        pub left_can : Can 𝓛 (strip (keep m d))
        left_can = part_can 𝓛 (strip d) (strip (keep m d)) best.part cd.0

        pub left_sane : Sane J (strip (keep m d))
        left_sane = stable_sane 𝓛 (strip (keep m d)) (nil ∷ []) left_can (fine_cons 𝓛 nil [] nil_canonical tt) best.stable

        -- what a writer puts out for the marks of each mode
        pub quick_shown : quick J (strip a) (strip b) ≡ some (shown J (strip (keep m d)))
        quick_shown = quick_whole ∙ ap (fold_some J) q ∙ ap some (shown_ok 𝓛 (strip (keep m d)) left_can left_sane)

        pub full_shown : full J (strip a) (strip b) ≡ shown_some J (full_left J m d)
        full_shown = full_whole ∙ full_writes 𝓛 d cd.0 cd.1 wd m best

        -- "The counted choices, for the limit below, are those of the quick result."
        pub choices_number : (L : ℕ) → 1 ≤ L → count_at L m d ≡ min (number (fold J (strip (keep m d)))) L
        choices_number L h = count_left d L h m ∙ ap (λ (n : ℕ). min n L) (sym (number_fold 𝓛 (strip (keep m d)) left_can left_sane))

        module _ (r : Desc Graph) (is : quick J (strip a) (strip b) ≡ some r) where
          quick_is : fold J (strip (keep m d)) ≡ r
          quick_is = same (sym (quick_whole ∙ ap (fold_some J) q) ∙ is)
            where
              same : some (fold J (strip (keep m d))) ≡ some r → fold J (strip (keep m d)) ≡ r
              same p = cc

          pub quick_number : count_at choice_stop m d ≡ min (number r) choice_stop
          quick_number = choices_number choice_stop (omega arith) ∙ ap (λ (z : Desc Graph). min (number z) choice_stop) quick_is

          -- the test of number 7, on the count over the marks
          pub over_limit_at : ltb choice_limit (count_at choice_stop m d) ≡ ltb choice_limit (number r)
          over_limit_at = ap (ltb choice_limit) (quick_number ∙ sym (capped_number r)) ∙ over_limit r
