-- What each mode keeps, mode by mode in one theorem each: satisfaction, the number of readings, and when it fails; and that order and
-- repetition of graphs do not matter.
-- Assumes nothing.
use mathlib.Core.Path.{◌≡◌, ap, sym, ◌∙◌, subst, refl}
use mathlib.Core.Logic.{◌↔◌}
use mathlib.Core.Option.{Option, none, some}
use mathlib.Core.List.{[], append-nil, List}
use Prim.Native.Nat.{ℕ, zero, suc}
use lib.ListN.{length}
use mathlib.Core.Bool.{Bool, true, false}
use native.Mathlib.Omega.{arith}
use Rattle.descriptions.specs.Satisfaction.{Sat}
use Rattle.descriptions.specs.Descr.{Desc, choices, readings}
use Rattle.descriptions.specs.Modes.{fold, full, joined, prune, quick, size, some_agree, tidy}
use Rattle.descriptions.specs.Answer.{consistent}
use Rattle.descriptions.specs.Rules.{mode_result}
use Rattle.descriptions.proofs.Laws.{Laws, Within}
use Rattle.descriptions.proofs.Mean.{Can, Fine, Tidied, alike_set, tidy_ok}
use Rattle.descriptions.proofs.Full.{fold_ok, prune_can, whole}
use Rattle.descriptions.proofs.Quick.{readings_count}
use Rattle.descriptions.proofs.Sense.{Both, full_sat, joined_sat, quick_sat}
use Rattle.descriptions.proofs.Chain.{Means, both, can_joined, result_means}
use Rattle.descriptions.proofs.Table.{full_is}
use Rattle.descriptions.specs.Joining.{Joining}
use Rattle.descriptions.specs.Structures.{Structures}
use Rattle.descriptions.proofs.Senses.{Sense}
use Rattle.descriptions.specs.Layout.{Layout}

module _ {Graph : Type 0} (J : Joining Graph) (𝓕 : Layout Graph) where
  -- the complete mode fails whenever it has none
  pub full_fails : (a b j : Desc Graph) → joined J a b ≡ some j → readings J j ≡ 0 → full J a b ≡ none
  unfolding consistent
  full_fails a b j h z = full_is J 𝓕 a b (ap (λ (o : Option (Desc Graph)). elim o [ none ↦ 0 | some k ↦ readings J k ]) h ∙ z)

module _ {Graph : Type 0} {J : Joining Graph} (𝓛 : Laws J) where
  open J use {join, nil}
  open 𝓛 use {nil_canonical}

  -- the same graphs, in any order and any number of times, join to the same graph
  pub join_order : (gs hs : List Graph) → Fine 𝓛 gs → Fine 𝓛 hs → Within gs hs → Within hs gs → join gs ≡ join hs
  join_order gs hs p q w v = ap join (sym (append-nil gs)) ∙ alike_set 𝓛 gs hs p q w v [] tt ∙ ap join (append-nil hs)

  quick_can : (a b d : Desc Graph) → Can 𝓛 a → Can 𝓛 b → quick J a b ≡ some d → Can 𝓛 d
  unfolding quick
  quick_can a b d p q e = go (joined J a b) refl e
    where
      two : (j : Desc Graph) (o : Option (Desc Graph)) → Tidied 𝓛 nil j o → o ≡ some d → Can 𝓛 d
      two j none t h = let z : ◌≡◌ {A = ℕ} 0 1 = cc in absurd (omega arith)
      two j (some f) t h = let k : f ≡ d = cc in subst (Can 𝓛) k t.0

      go : (o : Option (Desc Graph)) → joined J a b ≡ o →
          ◌≡◌ {A = Option (Desc Graph)} (elim o [ none ↦ none | some j ↦ tidy J (suc (size j)) nil j ]) (some d) → Can 𝓛 d
      go none h e = let z : ◌≡◌ {A = ℕ} 0 1 = cc in absurd (omega arith)
      go (some j) h e = two j (tidy J (suc (size j)) nil j) (tidy_ok 𝓛 (suc (size j)) nil nil_canonical j (can_joined 𝓛 a b j p q h)) e

  full_can : (a b d : Desc Graph) → Can 𝓛 a → Can 𝓛 b → full J a b ≡ some d → Can 𝓛 d
  unfolding full
  full_can a b d p q e = go (joined J a b) refl e
    where
      two : (j : Desc Graph) → Can 𝓛 j → (t : Bool) →
          ◌≡◌ {A = Option (Desc Graph)} (elim t [ true ↦ some (fold J (prune J whole j)) | false ↦ none ]) (some d) → Can 𝓛 d
      two j c true h = let k : fold J (prune J whole j) ≡ d = cc in subst (Can 𝓛) k (fold_ok 𝓛 (prune J whole j) (prune_can 𝓛 j c whole)).0
      two j c false h = let z : ◌≡◌ {A = ℕ} 0 1 = cc in absurd (omega arith)

      go : (o : Option (Desc Graph)) → joined J a b ≡ o →
          ◌≡◌ {A = Option (Desc Graph)} (elim o [
            | none ↦ none
            | some j ↦ elim (some_agree J (choices j)) [ true ↦ some (fold J (prune J whole j)) | false ↦ none ]
          ]) (some d) → Can 𝓛 d
      go none h e = let z : ◌≡◌ {A = ℕ} 0 1 = cc in absurd (omega arith)
      go (some j) h e = two j (can_joined 𝓛 a b j p q h) (some_agree J (choices j)) e

  -- the graphs of the result are canonical
  pub mode_can : (mode : ℕ) (a b : Desc Graph) → Can 𝓛 a → Can 𝓛 b → (d : Desc Graph) → mode_result J mode a b ≡ some d → Can 𝓛 d
  mode_can zero a b p q d e = can_joined 𝓛 a b d p q e
  mode_can (suc zero) a b p q d e = quick_can a b d p q e
  mode_can (suc (suc m)) a b p q d e = full_can a b d p q e

  module _ (mode : ℕ) (a b : Desc Graph) (p : Can 𝓛 a) (q : Can 𝓛 b) where
    module _ (j : Desc Graph) (h : joined J a b ≡ some j) where
      joined_number : readings J j ≡ length (both J a b)
      joined_number = readings_count J j ∙ ap length (subst (Means J (both J a b)) h (result_means 𝓛 0 a b p q))

      -- the result has as many readings as the joined description
      pub mode_readings_kept : (d : Desc Graph) → mode_result J mode a b ≡ some d → readings J d ≡ readings J j
      mode_readings_kept d e = readings_count J d ∙ ap length (subst (Means J (both J a b)) e (result_means 𝓛 mode a b p q))
          ∙ sym joined_number

      -- a mode fails only where the joined description has no reading
      pub mode_fails : mode_result J mode a b ≡ none → readings J j ≡ 0
      mode_fails e = joined_number ∙ ap length (subst (Means J (both J a b)) e (result_means 𝓛 mode a b p q))

module _ {Graph : Type 0} {J : Joining Graph} {𝓛 : Laws J} {𝓜 : Structures Graph} (𝓢 : Sense 𝓛 𝓜) where
  open 𝓜 use {Structure}

  module _ (mode : ℕ) (a b : Desc Graph) (p : Can 𝓛 a) (q : Can 𝓛 b) where
    result_sat : (S : Structure) → Both 𝓢 S a b (mode_result J mode a b)
    result_sat S = by mode
      where
        by : (m : ℕ) → Both 𝓢 S a b (mode_result J m a b)
        by zero = joined_sat 𝓢 S a b p q
        by (suc zero) = quick_sat 𝓢 S a b p q
        by (suc (suc m)) = full_sat 𝓢 S a b p q

    -- a structure satisfies the result exactly when it satisfies both inputs
    pub mode_satisfied : (d : Desc Graph) → mode_result J mode a b ≡ some d → (S : Structure) → Sat 𝓜 S d ↔ (Sat 𝓜 S a × Sat 𝓜 S b)
    mode_satisfied d e S = (subst (Both 𝓢 S a b) e (result_sat S)).1

    -- where the mode fails, none satisfies both
    pub mode_unsatisfied : mode_result J mode a b ≡ none → (S : Structure) → Sat 𝓜 S a → Sat 𝓜 S b → ⊥
    mode_unsatisfied e S = subst (Both 𝓢 S a b) e (result_sat S)
